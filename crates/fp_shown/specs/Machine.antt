-- The machine that settles and cancels the cells of a descent matrix.
use Rattle.std.specs.Prelude.{◌≡◌, ◌⊎◌, ◌<◌, ◌≤◌, ℕ, Bool, true, false, List, [], ◌∷◌, map, take, length, slice_index_or, slice_set, Option, None, Some}
use Rattle.fp_order.specs.declared.entry.Entry.{Entry}
use Rattle.fp_order.specs.declared.entry.Entry.TheVariants.{Unknown}
use Rattle.fp_order.specs.declared.grid.Grid.{Grid}
use Rattle.fp_order.specs.Grid.{cells_of, IsGrid}
use Rattle.fp_shown.specs.declared.state.CellState.{CellState}
use Rattle.fp_shown.specs.declared.state.CellState.TheVariants.{Free, Claimed, Settled, Cancelled}
use Rattle.fp_shown.specs.declared.state.Event.{Event}
use Rattle.fp_shown.specs.declared.state.Event.TheVariants.{Claim, Settle, Cancel, Quit}
use Rattle.fp_shown.specs.Fillings.{IsFilling}
use Rattle.fp_shown.specs.Effect.{IsFreeOfEffect, SameResult}
use Rattle.fp_shown.specs.Shown.{IsShown}

-- the state of a cell
abbrev pub state_at : List CellState → ℕ → CellState
state_at states k = slice_index_or states k Free

-- the entry of a settled cell
abbrev pub settled_of : CellState → Option Entry
settled_of Free = None
settled_of (Claimed w) = None
settled_of (Settled v) = Some v
settled_of Cancelled = None

-- the settled cells as a partial matrix
abbrev pub settled : List CellState → List (Option Entry)
settled states = map settled_of states

-- a seat's number
abbrev pub IsSeat : ℕ → Type 0
IsSeat w = (1 ≤ w) × (w ≤ 16)

-- a cell that is neither settled nor cancelled
abbrev pub IsPending : CellState → Type 0
IsPending s = (s ≡ Free) ⊎ ((u : ℕ) × (s ≡ Claimed u))

-- what each event needs
pub record MayClaim (states : List CellState) (w k : ℕ) : Type 0 where
  pub seat : IsSeat w
  pub inside : k < length states
  pub free : state_at states k ≡ Free
  pub alone : (j : ℕ) → j < length states → state_at states j ≡ Claimed w → ⊥

pub record MaySettle (verdicts : List Entry) (states : List CellState) (w k : ℕ) (v : Entry) : Type 0 where
  pub seat : IsSeat w
  pub inside : k < length states
  pub claimed : state_at states k ≡ Claimed w
  pub verdict : v ≡ slice_index_or verdicts k Unknown

pub record MayCancel (g : Grid) (states : List CellState) (w k : ℕ) : Type 0 where
  pub seat : IsSeat w
  pub inside : k < length states
  pub pending : IsPending (state_at states k)
  pub shown : IsShown g (settled states) k

pub record MayQuit (states : List CellState) (w k : ℕ) : Type 0 where
  pub seat : IsSeat w
  pub inside : k < length states
  pub claimed : state_at states k ≡ Claimed w

-- the event is allowed
abbrev pub IsAllowed : Grid → List Entry → List CellState → Event → Type 0
IsAllowed g verdicts states (Claim w k) = MayClaim states w k
IsAllowed g verdicts states (Settle w k v) = MaySettle verdicts states w k v
IsAllowed g verdicts states (Cancel w k) = MayCancel g states w k
IsAllowed g verdicts states (Quit w k) = MayQuit states w k

-- the cell of an event, and its state afterwards
abbrev pub cell_of : Event → ℕ
cell_of (Claim w k) = k
cell_of (Settle w k v) = k
cell_of (Cancel w k) = k
cell_of (Quit w k) = k

abbrev pub state_of : Event → CellState
state_of (Claim w k) = Claimed w
state_of (Settle w k v) = Settled v
state_of (Cancel w k) = Cancelled
state_of (Quit w k) = Free

-- the states after an event
abbrev pub after : List CellState → Event → List CellState
after states event = slice_set states (cell_of event) (state_of event)

-- a grid with the entries of its full matrix and the states of its cells
pub record Board : Type 0 where
  pub grid : Grid
  pub verdicts : List Entry
  pub states : List CellState

-- each settled cell has its entry, and each cancelled cell is shown by the settled ones
pub record IsBoard (g : Grid) (verdicts : List Entry) (states : List CellState) : Type 0 where
  pub right : IsGrid g
  pub full : length verdicts ≡ length (cells_of g)
  pub len : length states ≡ length (cells_of g)
  pub entries : (k : ℕ) (v : Entry) → state_at states k ≡ Settled v → v ≡ slice_index_or verdicts k Unknown
  pub shown : (k : ℕ) → k < length states → state_at states k ≡ Cancelled → IsShown g (settled states) k

-- the event was allowed and done, or it isn't allowed and nothing changed
abbrev pub Steps : Board → Event → Board → Bool → Type 0
Steps old event new true =
    IsAllowed old.grid old.verdicts old.states event × (new ≡ record { grid = old.grid; verdicts = old.verdicts; states = after old.states event })
Steps old event new false = (IsAllowed old.grid old.verdicts old.states event → ⊥) × (new ≡ old)

-- the events are allowed one after another, and lead there
pub data Plays (g : Grid) (verdicts : List Entry) : List CellState → List Event → List CellState → Type 0 where
  none : (states : List CellState) → Plays g verdicts states [] states
  more : (states : List CellState) (event : Event) (events : List Event) (last : List CellState) → IsAllowed g verdicts states event →
      Plays g verdicts (after states event) events last → Plays g verdicts states (event ∷ events) last

-- how far events were played: so many were allowed one after another, and the next, if there is one, isn't
pub record IsPlayed (old : Board) (events : List Event) (new : Board) (n : ℕ) : Type 0 where
  pub count : n ≤ length events
  pub grid : new.grid ≡ old.grid
  pub verdicts : new.verdicts ≡ old.verdicts
  pub plays : Plays old.grid old.verdicts old.states (take n events) new.states
  pub stops : n < length events → IsAllowed new.grid new.verdicts new.states (slice_index_or events n (Quit 0 0)) → ⊥

-- a cell that is settled or cancelled
abbrev pub IsClosed : CellState → Type 0
IsClosed s = ((v : Entry) × (s ≡ Settled v)) ⊎ (s ≡ Cancelled)

-- a closed cell stays as it is
abbrev pub ClosedStays : List CellState → List CellState → Type 0
ClosedStays old new = (k : ℕ) → IsClosed (state_at old k) → state_at new k ≡ state_at old k

-- each cancelled cell is free of effect in the matrix of the settled ones
abbrev pub CancelledAreFree : Board → Type 0
CancelledAreFree b = (k : ℕ) → k < length b.states → state_at b.states k ≡ Cancelled → IsFreeOfEffect b.grid (settled b.states) k

-- where all cells are closed, each filling of the settled cells has the result of the full matrix
abbrev pub ClosedHasResult : Board → Type 0
ClosedHasResult b = ((k : ℕ) → k < length b.states → IsClosed (state_at b.states k)) → (full : List Entry) → IsFilling (settled b.states) full →
    SameResult b.grid b.verdicts full
