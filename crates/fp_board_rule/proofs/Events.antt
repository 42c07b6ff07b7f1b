-- Each step that changes a word is an allowed event of the machine of cells.
use Rattle.std.proofs.Common.{◌≡◌, ℕ, ◌+◌, ◌-◌, ◌<◌, ◌≤◌, ◌⊎◌, List, [], ◌∷◌, ◌++◌, length, set, replicate, sym, refl, ap, ◌∙◌, subst, inl, inr, ⊎_elim, arith, Option, Some, None}
use mathlib.Core.Option.{some}
use lib.ListN.{get_elem?}
use Rattle.fp_order.specs.declared.entry.Entry.{Entry}
use Rattle.fp_shown.specs.declared.state.CellState.{CellState}
use Rattle.fp_shown.specs.declared.state.CellState.TheVariants.{Free, Claimed}
use Rattle.fp_shown.specs.declared.state.Event.{Event}
use Rattle.fp_shown.specs.declared.state.Event.TheVariants.{Claim, Settle, Cancel, Quit}
use Rattle.fp_shown.specs.Machine as machine
use Rattle.fp_shown.specs.Machine.{MayClaim, MaySettle, MayCancel, MayQuit, IsAllowed, Plays}
use Rattle.fp_shown.specs.Shown.{IsShown}
use Rattle.fp_shown.proofs.Plays.{plays_more}
use Rattle.fp_board_rule.specs.declared.plan.Plan.{Plan}
use Rattle.fp_board_rule.specs.declared.view.View.{View}
use Rattle.fp_board_rule.specs.Words.{code, state_of, word_at, settled_words, states_of}
use Rattle.fp_board_rule.specs.Rule.{count_of, AreVerdicts, IsVerdictOf, IsReached, Kept}
use Rattle.fp_board_rule.proofs.Words.{state_of-code, state_of-high, state_of-claimed, claimed-state_of, states_at, states_set, length_states, settled_states}
use Rattle.fp_board_rule.proofs.Changes.{owned}

abbrev pub Reaches : Plan → List ℕ → Type 0
Reaches plan ws = (full : List Entry) → AreVerdicts plan full → IsReached plan ws full

-- an allowed event more
next : (plan : Plan) (ws : List ℕ) (k y : ℕ) (event : Event) → k < count_of plan → Reaches plan ws
    → ((full : List Entry) → AreVerdicts plan full → IsAllowed plan.grid full (states_of (count_of plan) ws) event)
    → machine.after (states_of (count_of plan) ws) event ≡ set (states_of (count_of plan) ws) k (state_of y) → Reaches plan (set ws k y)
next plan ws k y event near reached allowed same full are = let n : ℕ = count_of plan in let q = reached full are in let start : List CellState = replicate n Free in record {
  events = q.events ++ event ∷ [];
  plays = subst (Plays plan.grid full start (q.events ++ event ∷ [])) (same ∙ sym (states_set n ws k y near)) (plays_more plan.grid full start (states_of n ws) q.events event q.plays (allowed full are));
}

inside : (plan : Plan) (ws : List ℕ) (views : List View) (k : ℕ) → Kept plan ws views → k < count_of plan → k < length (states_of (count_of plan) ws)
inside plan ws views k r near = subst (λ (q : ℕ). k < q) (sym (length_states (count_of plan) ws r.long)) near

pub claims_reach : (plan : Plan) (ws : List ℕ) (views : List View) (k id : ℕ) (v : View) → Kept plan ws views → get_elem? views id ≡ some v → 0 < v.number → k < count_of plan → v.claim ≡ None → word_at ws k ≡ 0
    → Reaches plan (set ws k (8 + v.number))
claims_reach plan ws views k id v r me pos near idle free = let n : ℕ = count_of plan in let f = r.fits id v me pos in
    let other : (j : ℕ) → j < length (states_of n ws) → machine.state_at (states_of n ws) j ≡ Claimed v.number → ⊥ = λ j l is. let l' : j < n = subst (λ (q : ℕ). j < q) (length_states n ws r.long) l in
    let mine : v.claim ≡ Some j = owned plan ws views j id v r me pos l' (claimed-state_of (word_at ws j) v.number pos (sym (states_at n ws j l') ∙ is)) in let w : None ≡ Some j = sym idle ∙ mine in cc in
    let may : MayClaim (states_of n ws) v.number k = record { seat = (omega arith, f.high); inside = inside plan ws views k r near; free = states_at n ws k near ∙ ap state_of free; alone = other } in
    next plan ws k (8 + v.number) (Claim v.number k) near r.reached (λ full are. may) (ap (λ (s : CellState). set (states_of n ws) k s) (sym (state_of-claimed (8 + v.number) v.number pos refl)))

claimed_here : (plan : Plan) (ws : List ℕ) (k m : ℕ) → k < count_of plan → 0 < m → word_at ws k ≡ 8 + m → machine.state_at (states_of (count_of plan) ws) k ≡ Claimed m
claimed_here plan ws k m near pos is = states_at (count_of plan) ws k near ∙ state_of-claimed (word_at ws k) m pos is

pub settles_reach : (plan : Plan) (ws : List ℕ) (views : List View) (k m : ℕ) (e : Entry) → Kept plan ws views → 0 < m → m ≤ 16 → k < count_of plan → word_at ws k ≡ 8 + m → IsVerdictOf plan k e
    → Reaches plan (set ws k (code e))
settles_reach plan ws views k m e r pos high near is verdict = let n : ℕ = count_of plan in
    next plan ws k (code e) (Settle m k e) near r.reached
    (λ full are. record { seat = (omega arith, high); inside = inside plan ws views k r near; claimed = claimed_here plan ws k m near pos is; verdict = are.each k e verdict })
    (ap (λ (s : CellState). set (states_of n ws) k s) (sym (state_of-code e)))

pub cancels_reach : (plan : Plan) (ws : List ℕ) (views : List View) (k m : ℕ) → Kept plan ws views → 0 < m → m ≤ 16 → k < count_of plan → (word_at ws k ≡ 0) ⊎ (8 < word_at ws k) → IsShown plan.grid (settled_words (count_of plan) ws) k
    → Reaches plan (set ws k 1)
cancels_reach plan ws views k m r pos high near vacant shown = let n : ℕ = count_of plan in let x : ℕ = word_at ws k in
    let pending : machine.IsPending (machine.state_at (states_of n ws) k) = ⊎_elim (λ (p : x ≡ 0). inl (states_at n ws k near ∙ ap state_of p)) (λ (p : 8 < x). inr (x - 8, states_at n ws k near ∙ state_of-high x (omega arith))) vacant in
    next plan ws k 1 (Cancel m k) near r.reached
    (λ full are. record { seat = (omega arith, high); inside = inside plan ws views k r near; pending = pending; shown = subst (λ (known : List (Option Entry)). IsShown plan.grid known k) (sym (settled_states n ws)) shown }) refl

pub quits_reach : (plan : Plan) (ws : List ℕ) (views : List View) (k m : ℕ) → Kept plan ws views → 0 < m → m ≤ 16 → k < count_of plan → word_at ws k ≡ 8 + m → Reaches plan (set ws k 0)
quits_reach plan ws views k m r pos high near is =
    next plan ws k 0 (Quit m k) near r.reached (λ full are. record { seat = (omega arith, high); inside = inside plan ws views k r near; claimed = claimed_here plan ws k m near pos is }) refl
