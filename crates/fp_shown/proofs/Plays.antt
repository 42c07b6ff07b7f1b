-- Events that are played one after another, and what a board shows.
use Rattle.std.proofs.Common.{◌≡◌, ◌⊎◌, ◌<◌, ◌+◌, ℕ, List, [], ◌∷◌, ◌++◌, take, length, get_or, refl, arith, inl, inr, sym, ◌∙◌, ap, subst, Bool, true, Some, None, add-one}
use Rattle.std.proofs.Math.Seq.{take-suc}
use Rattle.std.proofs.lemmas.Bool.{cases_eq}
use Rattle.std.proofs.lemmas.List.{length-map, get_or-set_other}
use Rattle.fp_order.specs.declared.entry.Entry.{Entry}
use Rattle.fp_order.specs.declared.grid.Grid.{Grid}
use Rattle.fp_order.specs.Grid.{cells_of}
use Rattle.fp_shown.specs.declared.state.CellState.{CellState}
use Rattle.fp_shown.specs.declared.state.CellState.TheVariants.{Free, Claimed, Settled, Cancelled}
use Rattle.fp_shown.specs.declared.state.Event.{Event}
use Rattle.fp_shown.specs.declared.state.Event.TheVariants.{Claim, Settle, Cancel, Quit}
use Rattle.fp_shown.specs.Fillings.{IsFilling}
use Rattle.fp_shown.specs.Shown.{IsShown}
use Rattle.fp_shown.specs.Machine.{state_at, settled_of, settled, Board, IsAllowed, after, IsBoard, Plays, none, more, Steps, cell_of, state_of, IsPending, IsClosed, ClosedStays, CancelledAreFree, ClosedHasResult}
use Rattle.fp_shown.proofs.Boards.{settled_at}
use Rattle.fp_shown.proofs.Free.{closed_one}
use Rattle.fp_shown.proofs.Free as free

pub plays_more : (g : Grid) (v : List Entry) (first last : List CellState) (events : List Event) (event : Event) → Plays g v first events last → IsAllowed g v last event →
    Plays g v first (events ++ event ∷ []) (after last event)
plays_more g v first last events event (none states) h = more states event [] (after states event) h (none (after states event))
plays_more g v first last events event (more states e rest end now later) h =
    more states e (rest ++ event ∷ []) (after end event) now (plays_more g v (after states e) end rest event later h)

plays_next : (g : Grid) (v : List Entry) (first last : List CellState) (events : List Event) (n : ℕ) (event : Event) → n < length events → event ≡ get_or events n event →
    Plays g v first (take n events) last → IsAllowed g v last event → Plays g v first (take (n + 1) events) (after last event)
plays_next g v first last events n event l at p h =
    let t : take (n + 1) events ≡ take n events ++ event ∷ [] = rw add-one (take-suc events n event l ∙ ap (λ (x : Event). take n events ++ x ∷ []) (sym at)) in
    subst (λ (x : List Event). Plays g v first x (after last event)) (sym t) (plays_more g v first last (take n events) event p h)

-- one event more was allowed and done
pub played_more : (first now new : Board) (event : Event) (done : Bool) (events : List Event) (n : ℕ) → Steps now event new done → done ≡ true →
    now.grid ≡ first.grid → now.verdicts ≡ first.verdicts → Plays first.grid first.verdicts first.states (take n events) now.states → n < length events → event ≡ get_or events n event →
    (new.grid ≡ first.grid) × (new.verdicts ≡ first.verdicts) × Plays first.grid first.verdicts first.states (take (n + 1) events) new.states
played_more first now new event done events n steps done_now grid verdicts plays l at =
    let S : Bool → Type 0 = λ b. Steps now event new b in
    let s = subst S done_now steps in
    let G : Grid → Type 0 = λ g. IsAllowed g now.verdicts now.states event in
    let V : List Entry → Type 0 = λ v. IsAllowed first.grid v now.states event in
    let allowed = subst V verdicts (subst G grid s.0) in
    let P : List CellState → Type 0 = λ t. Plays first.grid first.verdicts first.states (take (n + 1) events) t in
    let made = plays_next first.grid first.verdicts first.states now.states events n event l at plays allowed in
    (ap (λ (b : Board). b.grid) s.1 ∙ grid, ap (λ (b : Board). b.verdicts) s.1 ∙ verdicts, subst P (sym (ap (λ (b : Board). b.states) s.1)) made)

-- the cell of an allowed event is not closed
event_pending : (g : Grid) (v : List Entry) (states : List CellState) (event : Event) → IsAllowed g v states event → IsPending (state_at states (cell_of event))
event_pending g v states (Claim w k) h = inl h.free
event_pending g v states (Settle w k x) h = inr (w, h.claimed)
event_pending g v states (Cancel w k) h = h.pending
event_pending g v states (Quit w k) h = inr (w, h.claimed)

pending_open : (s : CellState) → IsPending s → IsClosed s → ⊥
pending_open s (inl e) (inl t) = let c = t.1 in cc
pending_open s (inl e) (inr d) = cc
pending_open s (inr p) (inl t) = let e = p.1 in let c = t.1 in cc
pending_open s (inr p) (inr d) = let e = p.1 in cc

event_stays : (g : Grid) (v : List Entry) (states : List CellState) (event : Event) → IsAllowed g v states event → ClosedStays states (after states event)
event_stays g v states event h k closed = elim (cases_eq k (cell_of event)) [
  | inl s ↦ absurd (pending_open (state_at states k) (subst (λ (x : ℕ). IsPending (state_at states x)) (sym s) (event_pending g v states event h)) closed)
  | inr off ↦ get_or-set_other states (cell_of event) k (state_of event) Free off
]

-- what is closed stays so when events are played
pub plays_stay : (g : Grid) (v : List Entry) (first last : List CellState) (events : List Event) → Plays g v first events last → ClosedStays first last
plays_stay g v first last events (none states) k closed = refl
plays_stay g v first last events (more states event rest end now later) k closed =
    let s = event_stays g v states event now k closed in
    plays_stay g v (after states event) end rest later k (subst (λ (x : CellState). IsClosed x) (sym s) closed) ∙ s

settled_some : (s : CellState) (v : Entry) → settled_of s ≡ Some v → s ≡ Settled v
settled_some Free v h = cc
settled_some (Claimed w) v h = cc
settled_some (Settled x) v h = cc
settled_some Cancelled v h = cc

-- the full matrix is a filling of the settled cells
pub fills_own : (g : Grid) (verdicts : List Entry) (states : List CellState) → IsBoard g verdicts states → IsFilling (settled states) verdicts
fills_own g verdicts states b = record {
  len = b.full ∙ (sym b.len ∙ sym (length-map states settled_of));
  agrees = λ k v h. sym (b.entries k v (settled_some (state_at states k) v (sym (settled_at states k) ∙ h)));
}

pub cancelled_free : (b : Board) → IsBoard b.grid b.verdicts b.states → CancelledAreFree b
cancelled_free b h k l s = free.shown_free b.grid h.right (settled b.states) (length-map b.states settled_of ∙ h.len) k (h.shown k l s)

pub closed_result : (b : Board) → IsBoard b.grid b.verdicts b.states → ClosedHasResult b
closed_result b h closed full fills =
    closed_one b.grid h.right (settled b.states) (length-map b.states settled_of ∙ h.len) known_or_shown b.verdicts full (fills_own b.grid b.verdicts b.states h) fills where
      known_or_shown : (k : ℕ) → k < length (cells_of b.grid) → ((v : Entry) × (get_or (settled b.states) k None ≡ Some v)) ⊎ IsShown b.grid (settled b.states) k
      known_or_shown k l = let m : k < length b.states = omega (arith, l, h.len) in elim (closed k m) [
        | inl t ↦ inl (t.0, settled_at b.states k ∙ ap settled_of t.1)
        | inr s ↦ inr (h.shown k m s)
      ]
