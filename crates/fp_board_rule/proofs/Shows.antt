-- Words that keep the rule show a state of the machine of cells.
use Rattle.std.proofs.Common.{◌≡◌, ℕ, zero, suc, ◌<◌, ◌≤◌, List, [], ◌∷◌, length, sym, ◌∙◌, subst, ⊎_elim, arith, Option}
use Rattle.fp_order.specs.declared.entry.Entry.{Entry}
use Rattle.fp_shown.specs.declared.state.CellState.{CellState}
use Rattle.fp_shown.specs.declared.state.CellState.TheVariants.{Free, Settled}
use Rattle.fp_shown.specs.Machine.{state_at}
use Rattle.fp_shown.specs.Shown.{IsShown}
use Rattle.fp_board_rule.specs.declared.plan.Plan.{Plan}
use Rattle.fp_board_rule.specs.Words.{code, word_at, states_of}
use Rattle.fp_board_rule.specs.Rule.{count_of, IsVerdictOf, IsWord, ShowsBoard}
use Rattle.fp_board_rule.proofs.Words.{code_low, code_one, settled-state_of, cancelled-state_of, states_at, length_states, settled_states}

-- a settled word is the verdict
pub verdict_at : (plan : Plan) (k x : ℕ) (e : Entry) → IsWord plan k x → x ≡ code e → IsVerdictOf plan k e
verdict_at plan k x e legal is = let low = code_low e in ⊎_elim (λ (p : x ≡ 0). absurd (omega arith)) (λ rest₁. ⊎_elim (λ (p : x ≡ 1). absurd (omega arith))
    (λ rest₂. ⊎_elim (λ (p : (d : Entry) × (x ≡ code d) × IsVerdictOf plan k d). subst (IsVerdictOf plan k) (code_one p.0 e (sym p.1 ∙ is)) p.2) (λ (p : (8 < x) × (x ≤ 24)). absurd (let a = p.0 in omega arith)) rest₂) rest₁) legal

-- beyond the cells there is no settled one
state_past : (n : ℕ) (words : List ℕ) (k : ℕ) (e : Entry) → n ≤ length words → state_at (states_of n words) k ≡ Settled e → k < n
state_past n words k e long is = subst (λ (q : ℕ). k < q) (length_states n words long) (inside (states_of n words) k e is) where
  inside : (states : List CellState) (j : ℕ) (d : Entry) → state_at states j ≡ Settled d → j < length states
  inside [] j d at = absurd (let w : Free ≡ Settled d = at in cc)
  inside (s ∷ states) zero d at = omega arith
  inside (s ∷ states) (suc j) d at = let h = inside states j d at in omega arith

pub shows_board : (plan : Plan) → ShowsBoard plan
shows_board plan words views r full are = let n : ℕ = count_of plan in record {
  right = r.right.right;
  full = are.len;
  len = length_states n words r.long ∙ r.right.full;
  entries = λ k e is. let l = state_past n words k e r.long is in
      are.each k e (verdict_at plan k (word_at words k) e (r.legal k l) (settled-state_of (word_at words k) e (sym (states_at n words k l) ∙ is)));
  shown = λ k l is. let near : k < n = subst (λ (q : ℕ). k < q) (length_states n words r.long) l in
      subst (λ (known : List (Option Entry)). IsShown plan.grid known k) (sym (settled_states n words))
      (r.shown k near (cancelled-state_of (word_at words k) (sym (states_at n words k near) ∙ is)));
}
