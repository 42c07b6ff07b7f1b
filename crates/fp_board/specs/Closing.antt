-- What a closed board shows.
use Rattle.std.specs.Prelude.{◌≡◌, ℕ, ◌<◌, ◌⊎◌, List, length, replicate, Option, Some, None}
use Rattle.fp_order.specs.declared.entry.Entry.{Entry}
use Rattle.fp_shown.specs.declared.partial.Partial.{Partial}
use Rattle.fp_shown.specs.declared.state.CellState.{CellState}
use Rattle.fp_shown.specs.declared.state.CellState.TheVariants.{Free}
use Rattle.fp_shown.specs.declared.state.Event.{Event}
use Rattle.fp_shown.specs.Effect.{SameResult}
use Rattle.fp_shown.specs.Fillings.{IsFilling}
use Rattle.fp_shown.specs.Machine.{Plays, settled, state_at, IsClosed}
use Rattle.fp_shown.specs.Shown.{IsShown}
use Rattle.fp_board_rule.specs.declared.plan.Plan.{Plan}
use Rattle.fp_board_rule.specs.Words.{known_in}
use Rattle.fp_board_rule.specs.Rule.{count_of, IsPlan, AreVerdicts, IsVerdictOf}

-- what a board was made for, and what is known of its cells
pub record ClosedBoard : Type 0 where
  pub plan : Plan
  pub partial : Partial

-- the cell is known with its verdict, or it is shown by the known ones
abbrev pub IsClosedCell : Plan → List (Option Entry) → ℕ → Type 0
IsClosedCell plan known k = ((e : Entry) × (known_in known k ≡ Some e) × IsVerdictOf plan k e) ⊎ ((known_in known k ≡ None) × IsShown plan.grid known k)

-- the machine of cells came there by events each of which was allowed, and closed every cell
pub record IsPlayedOut (plan : Plan) (known : List (Option Entry)) (full : List Entry) : Type 0 where
  pub events : List Event
  pub states : List CellState
  pub plays : Plays plan.grid full (replicate (count_of plan) Free) events states
  pub settled_cells : settled states ≡ known
  pub all : (k : ℕ) → k < length states → IsClosed (state_at states k)

-- each cell is closed, so that each filling has the result of the full matrix of verdicts
pub record IsClosedBoard (plan : Plan) (known : List (Option Entry)) : Type 0 where
  pub right : IsPlan plan
  pub long : length known ≡ count_of plan
  pub cells : (k : ℕ) → k < count_of plan → IsClosedCell plan known k
  pub played : (full : List Entry) → AreVerdicts plan full → IsPlayedOut plan known full
  pub result : (full : List Entry) → AreVerdicts plan full → (other : List Entry) → IsFilling known other → SameResult plan.grid full other
