-- Each event keeps what a board has.
use Rattle.std.proofs.Common.{◌≡◌, ◌<◌, ℕ, zero, suc, List, [], ◌∷◌, length, get_or, set, refl, arith, inl, inr, sym, ◌∙◌, ap, subst, Option, Some, None, replicate}
use Rattle.std.proofs.lemmas.Bool.{cases_eq}
use Rattle.std.proofs.lemmas.List.{length-map, get_or-set_same, get_or-set_other, length-set, length-replicate}
use Rattle.fp_order.specs.declared.entry.Entry.{Entry}
use Rattle.fp_order.specs.declared.entry.Entry.TheVariants.{Unknown}
use Rattle.fp_order.specs.declared.grid.Grid.{Grid}
use Rattle.fp_order.specs.Grid.{cells_of, columns_of, IsGrid}
use Rattle.fp_shown.specs.declared.state.CellState.{CellState}
use Rattle.fp_shown.specs.declared.state.CellState.TheVariants.{Free, Claimed, Settled, Cancelled}
use Rattle.fp_shown.specs.declared.state.Event.{Event}
use Rattle.fp_shown.specs.declared.state.Event.TheVariants.{Claim, Settle, Cancel, Quit}
use Rattle.fp_shown.specs.Fillings.{KnowsMore}
use Rattle.fp_shown.specs.Shown.{number_on, row_of, IsShown}
use Rattle.fp_shown.specs.Machine.{state_at, settled_of, settled, IsAllowed, cell_of, state_of, IsBoard, IsPending, MayClaim, MaySettle, MayCancel, MayQuit}
use Rattle.fp_shown.proofs.Inside.{inside_grid}
use Rattle.fp_shown.proofs.Longest as longest

pub settled_set : (states : List CellState) (k : ℕ) (s : CellState) → settled (set states k s) ≡ set (settled states) k (settled_of s)
settled_set [] k s = refl
settled_set (x ∷ states) zero s = refl
settled_set (x ∷ states) (suc k) s = ap (λ (t : List (Option Entry)). settled_of x ∷ t) (settled_set states k s)

pub settled_at : (states : List CellState) (k : ℕ) → get_or (settled states) k None ≡ settled_of (state_at states k)
settled_at [] k = refl
settled_at (x ∷ states) zero = refl
settled_at (x ∷ states) (suc k) = settled_at states k

-- a cell that was not settled may change
pub knows_more : (states : List CellState) (k : ℕ) (s : CellState) → settled_of (state_at states k) ≡ None → KnowsMore (settled states) (settled (set states k s))
knows_more states k s none = record {
  len = ap length (settled_set states k s) ∙ length-set (settled states) k (settled_of s);
  keeps = keep;
} where
  keep : (j : ℕ) (v : Entry) → get_or (settled states) j None ≡ Some v → get_or (settled (set states k s)) j None ≡ Some v
  keep j v h = elim (cases_eq j k) [
    | inl e ↦ absurd (let p = settled_at states k in let P : ℕ → Type 0 = λ i. get_or (settled states) i None ≡ Some v in let q = subst P e h in cc)
    | inr e ↦ ap (λ (t : List (Option Entry)). get_or t j None) (settled_set states k s) ∙ (get_or-set_other (settled states) k j (settled_of s) None e ∙ h)
  ]

pub shown_later : (g : Grid) (states : List CellState) (k : ℕ) (s : CellState) (j : ℕ) → IsGrid g → length states ≡ length (cells_of g) → settled_of (state_at states k) ≡ None →
    IsShown g (settled states) j → IsShown g (settled (set states k s)) j
unfolding IsShown
shown_later g states k s j h len none w =
    longest.shown_stays (number_on g) (length (columns_of g.functions)) (length g.rows) (settled states) (settled (set states k s))
    (inside_grid g (settled states) h (length-map states settled_of ∙ len)) (knows_more states k s none) (row_of g j) w

pub board_set : (g : Grid) (verdicts : List Entry) (states : List CellState) (k : ℕ) (s : CellState) → IsBoard g verdicts states → k < length states → settled_of (state_at states k) ≡ None →
    ((v : Entry) → s ≡ Settled v → v ≡ get_or verdicts k Unknown) → (s ≡ Cancelled → IsShown g (settled states) k) → IsBoard g verdicts (set states k s)
board_set g verdicts states k s b l none entry shown = record {
  right = b.right;
  full = b.full;
  len = length-set states k s ∙ b.len;
  entries = entries;
  shown = cancelled;
} where
  entries : (j : ℕ) (v : Entry) → state_at (set states k s) j ≡ Settled v → v ≡ get_or verdicts j Unknown
  entries j v h = elim (cases_eq j k) [
    | inl e ↦
        let P : ℕ → Type 0 = λ i. state_at (set states k s) i ≡ Settled v in
        let Q : ℕ → Type 0 = λ i. v ≡ get_or verdicts i Unknown in
        subst Q (sym e) (entry v (sym (get_or-set_same states k s Free l) ∙ subst P e h))
    | inr e ↦ b.entries j v (sym (get_or-set_other states k j s Free e) ∙ h)
  ]

  cancelled : (j : ℕ) → j < length (set states k s) → state_at (set states k s) j ≡ Cancelled → IsShown g (settled (set states k s)) j
  cancelled j m h = elim (cases_eq j k) [
    | inl e ↦
        let P : ℕ → Type 0 = λ i. state_at (set states k s) i ≡ Cancelled in
        let Q : ℕ → Type 0 = λ i. IsShown g (settled (set states k s)) i in
        subst Q (sym e) (shown_later g states k s k b.right b.len none (shown (sym (get_or-set_same states k s Free l) ∙ subst P e h)))
    | inr e ↦ shown_later g states k s j b.right b.len none (b.shown j (omega (arith, m, length-set states k s)) (sym (get_or-set_other states k j s Free e) ∙ h))
  ]

claimed_settled : (w : ℕ) (v : Entry) → Claimed w ≡ Settled v → ⊥
claimed_settled w v h = cc

cancelled_settled : (v : Entry) → Cancelled ≡ Settled v → ⊥
cancelled_settled v h = cc

free_settled : (v : Entry) → Free ≡ Settled v → ⊥
free_settled v h = cc

claimed_cancelled : (w : ℕ) → Claimed w ≡ Cancelled → ⊥
claimed_cancelled w h = cc

settled_cancelled : (v : Entry) → Settled v ≡ Cancelled → ⊥
settled_cancelled v h = cc

free_cancelled : Free ≡ Cancelled → ⊥
free_cancelled h = cc

settled_one : (v u : Entry) → Settled v ≡ Settled u → u ≡ v
settled_one v u h = cc

pending_none : (s : CellState) → IsPending s → settled_of s ≡ None
pending_none s (inl e) = ap settled_of e
pending_none s (inr (u, e)) = ap settled_of e

board_claim : (g : Grid) (verdicts : List Entry) (states : List CellState) (w k : ℕ) → IsBoard g verdicts states → MayClaim states w k → IsBoard g verdicts (set states k (Claimed w))
board_claim g verdicts states w k b h =
    board_set g verdicts states k (Claimed w) b h.inside (ap settled_of h.free) (λ v s. absurd (claimed_settled w v s)) (λ s. absurd (claimed_cancelled w s))

board_settle : (g : Grid) (verdicts : List Entry) (states : List CellState) (w k : ℕ) (v : Entry) → IsBoard g verdicts states → MaySettle verdicts states w k v → IsBoard g verdicts (set states k (Settled v))
board_settle g verdicts states w k v b h =
    board_set g verdicts states k (Settled v) b h.inside (ap settled_of h.claimed) (λ u s. settled_one v u s ∙ h.verdict) (λ s. absurd (settled_cancelled v s))

board_cancel : (g : Grid) (verdicts : List Entry) (states : List CellState) (w k : ℕ) → IsBoard g verdicts states → MayCancel g states w k → IsBoard g verdicts (set states k Cancelled)
board_cancel g verdicts states w k b h =
    board_set g verdicts states k Cancelled b h.inside (pending_none (state_at states k) h.pending) (λ v s. absurd (cancelled_settled v s)) (λ s. h.shown)

board_quit : (g : Grid) (verdicts : List Entry) (states : List CellState) (w k : ℕ) → IsBoard g verdicts states → MayQuit states w k → IsBoard g verdicts (set states k Free)
board_quit g verdicts states w k b h =
    board_set g verdicts states k Free b h.inside (ap settled_of h.claimed) (λ v s. absurd (free_settled v s)) (λ s. absurd (free_cancelled s))

pub board_step : (g : Grid) (verdicts : List Entry) (states : List CellState) (event : Event) → IsBoard g verdicts states → IsAllowed g verdicts states event →
    IsBoard g verdicts (set states (cell_of event) (state_of event))
board_step g verdicts states (Claim w k) b h = board_claim g verdicts states w k b h
board_step g verdicts states (Settle w k v) b h = board_settle g verdicts states w k v b h
board_step g verdicts states (Cancel w k) b h = board_cancel g verdicts states w k b h
board_step g verdicts states (Quit w k) b h = board_quit g verdicts states w k b h

pub settled_free : (n : ℕ) → settled (replicate n Free) ≡ replicate n None
settled_free zero = refl
settled_free (suc n) = ap (λ (t : List (Option Entry)). None ∷ t) (settled_free n)

state_free : (n k : ℕ) → state_at (replicate n Free) k ≡ Free
state_free zero k = refl
state_free (suc n) zero = refl
state_free (suc n) (suc k) = state_free n k

-- where all cells are free
pub board_start : (g : Grid) (verdicts : List Entry) → IsGrid g → length verdicts ≡ length (cells_of g) → IsBoard g verdicts (replicate (length verdicts) Free)
board_start g verdicts h full = record {
  right = h;
  full = full;
  len = length-replicate (length verdicts) Free ∙ full;
  entries = λ k v s. absurd (let e = state_free (length verdicts) k in cc);
  shown = λ k l s. absurd (let e = state_free (length verdicts) k in cc);
}
