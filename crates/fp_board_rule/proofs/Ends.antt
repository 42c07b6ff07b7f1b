-- What a seat that is alone has once each cell is known or noted by it.
use Rattle.std.proofs.Common.{◌≡◌, ℕ, suc, ◌<◌, ◌⊎◌, List, [], ◌∷◌, length, sym, refl, ap, ◌∙◌, subst, inl, inr, ⊎_elim, arith, true, Option, Some, None}
use Rattle.fp_order.specs.declared.entry.Entry.{Entry}
use Rattle.fp_shown.specs.declared.state.CellState.{CellState}
use Rattle.fp_shown.specs.Effect.{SameResult}
use Rattle.fp_shown.specs.Fillings.{IsFilling}
use Rattle.fp_shown.specs.Machine as machine
use Rattle.fp_shown.specs.Shown.{IsShown}
use Rattle.fp_shown.proofs.Plays.{closed_result}
use Rattle.fp_board_rule.specs.declared.plan.Plan.{Plan}
use Rattle.fp_board_rule.specs.declared.view.View.{View}
use Rattle.fp_board_rule.specs.Words.{entry_of, state_of, word_at, known_in, noted_in, settled_words, states_of}
use Rattle.fp_board_rule.specs.Steps.{IsDone}
use Rattle.fp_board_rule.specs.Rule.{count_of, AreVerdicts, IsVerdictOf, Fits, Kept}
use Rattle.fp_board_rule.proofs.Words.{code_low, entry_of-code, state_of-code, settled_at, states_at, length_settled, length_states, settled_states}
use Rattle.fp_board_rule.proofs.Shows.{verdict_at, shows_board}

-- lists that have the same at each place are one
same_lists : (xs ys : List (Option Entry)) → length xs ≡ length ys → ((k : ℕ) → k < length xs → known_in xs k ≡ known_in ys k) → xs ≡ ys
same_lists [] [] long each = refl
same_lists [] (y ∷ ys) long each = absurd (omega arith)
same_lists (x ∷ xs) [] long each = absurd (omega arith)
same_lists (x ∷ xs) (y ∷ ys) long each = let h : x ≡ y = each 0 (omega arith) in let t : xs ≡ ys = same_lists xs ys (omega arith) (λ k l. each (suc k) (omega arith)) in
    ap (λ (q : Option Entry). q ∷ xs) h ∙ ap (λ (q : List (Option Entry)). y ∷ q) t

-- a cell that is noted isn't known
noted_unknown : (plan : Plan) (ws : List ℕ) (v : View) (k : ℕ) → Fits plan ws v → noted_in v.noted k ≡ true → known_in v.known k ≡ None
noted_unknown plan ws v k f noted = either_way (known_in v.known k) refl where
  either_way : (o : Option Entry) → known_in v.known k ≡ o → known_in v.known k ≡ None
  either_way None is = is
  either_way (Some e) is = let a = f.known k e is in let b = f.noted k noted in let low = code_low e in absurd (omega arith)

-- the settled words are what the seat knows
pub knows_settled : (plan : Plan) (ws : List ℕ) (views : List View) (v : View) → Kept plan ws views → Fits plan ws v → ((k : ℕ) → k < count_of plan → IsDone v k) → settled_words (count_of plan) ws ≡ v.known
knows_settled plan ws views v r f all = let n : ℕ = count_of plan in
    let long : length (settled_words n ws) ≡ n = length_settled n ws r.long in
    same_lists (settled_words n ws) v.known (long ∙ sym f.known_long) (λ k l. let near : k < n = subst (λ (q : ℕ). k < q) long l in
    settled_at n ws k near ∙ ⊎_elim (λ (p : (e : Entry) × (known_in v.known k ≡ Some e)). ap entry_of (f.known k p.0 p.1) ∙ (entry_of-code p.0 ∙ sym p.1))
    (λ (p : noted_in v.noted k ≡ true). ap entry_of (f.noted k p) ∙ sym (noted_unknown plan ws v k f p)) (all k near))

-- each cell is known with its verdict, or shown by the known ones
pub closed_cell : (plan : Plan) (ws : List ℕ) (views : List View) (v : View) → Kept plan ws views → Fits plan ws v → ((k : ℕ) → k < count_of plan → IsDone v k) → (k : ℕ) → k < count_of plan
    → ((e : Entry) × (known_in v.known k ≡ Some e) × IsVerdictOf plan k e) ⊎ ((known_in v.known k ≡ None) × IsShown plan.grid v.known k)
closed_cell plan ws views v r f all k near = ⊎_elim (λ (p : (e : Entry) × (known_in v.known k ≡ Some e)). inl (p.0, p.1, verdict_at plan k (word_at ws k) p.0 (r.legal k near) (f.known k p.0 p.1)))
    (λ (p : noted_in v.noted k ≡ true). inr (noted_unknown plan ws v k f p, subst (λ (known : List (Option Entry)). IsShown plan.grid known k) (knows_settled plan ws views v r f all) (r.shown k near (f.noted k p)))) (all k near)

-- each cell of the machine is closed
pub closed_state : (plan : Plan) (ws : List ℕ) (views : List View) (v : View) → Kept plan ws views → Fits plan ws v → ((k : ℕ) → k < count_of plan → IsDone v k) → (k : ℕ) → k < length (states_of (count_of plan) ws)
    → machine.IsClosed (machine.state_at (states_of (count_of plan) ws) k)
closed_state plan ws views v r f all k l = let n : ℕ = count_of plan in let near : k < n = subst (λ (q : ℕ). k < q) (length_states n ws r.long) l in
    ⊎_elim (λ (p : (e : Entry) × (known_in v.known k ≡ Some e)). inl (p.0, states_at n ws k near ∙ (ap state_of (f.known k p.0 p.1) ∙ state_of-code p.0)))
    (λ (p : noted_in v.noted k ≡ true). inr (states_at n ws k near ∙ ap state_of (f.noted k p))) (all k near)

-- the settled cells of the machine are what the seat knows
pub knows_states : (plan : Plan) (ws : List ℕ) (views : List View) (v : View) → Kept plan ws views → Fits plan ws v → ((k : ℕ) → k < count_of plan → IsDone v k) → machine.settled (states_of (count_of plan) ws) ≡ v.known
knows_states plan ws views v r f all = settled_states (count_of plan) ws ∙ knows_settled plan ws views v r f all

-- each filling of what the seat knows has the result of the full matrix of verdicts
pub one_result : (plan : Plan) (ws : List ℕ) (views : List View) (v : View) → Kept plan ws views → Fits plan ws v → ((k : ℕ) → k < count_of plan → IsDone v k) → (full : List Entry) → AreVerdicts plan full
    → (other : List Entry) → IsFilling v.known other → SameResult plan.grid full other
one_result plan ws views v r f all full are other fills = let states : List CellState = states_of (count_of plan) ws in
    closed_result (record { grid = plan.grid; verdicts = full; states = states }) (shows_board plan ws views r full are) (closed_state plan ws views v r f all) other
    (subst (λ (known : List (Option Entry)). IsFilling known other) (sym (knows_states plan ws views v r f all)) fills)
