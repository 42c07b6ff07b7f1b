-- The rule of a board: what its words and the views of all seats have in common at each moment.
use Rattle.std.specs.Prelude.{◌≡◌, ℕ, ◌+◌, ◌<◌, ◌≤◌, ◌⊎◌, List, length, replicate, true, false, Some, None, slice_index_or, slice_get}
use mathlib.Core.Option.{some}
use lib.ListN.{get_elem?}
use Rattle.atomic_table.specs.Table.{State}
use Rattle.fp_order.specs.declared.entry.Entry.{Entry}
use Rattle.fp_order.specs.declared.entry.Entry.TheVariants.{Unknown}
use Rattle.fp_order.specs.Grid.{cells_of, IsGrid}
use Rattle.fp_shown.specs.declared.state.CellState.TheVariants.{Free}
use Rattle.fp_shown.specs.declared.state.Event.{Event}
use Rattle.fp_shown.specs.Shown.{IsShown}
use Rattle.fp_shown.specs.Machine.{Plays, IsBoard}
use Rattle.fp_simp.specs.declared.cell.CellData.{CellData}
use Rattle.fp_simp.specs.Verdicts.{IsVerdict}
use Rattle.fp_board_rule.specs.declared.plan.Plan.{Plan}
use Rattle.fp_board_rule.specs.declared.view.View.{View}
use Rattle.fp_board_rule.specs.Words.{code, word_at, known_in, noted_in, settled_words, states_of}

-- how many cells the board has
abbrev pub count_of : Plan → ℕ
count_of plan = length plan.cells.items

-- there are goals for each cell of the grid
pub record IsPlan (plan : Plan) : Type 0 where
  pub right : IsGrid plan.grid
  pub full : length plan.cells.items ≡ length (cells_of plan.grid)

-- the verdict of a cell
pub record IsVerdictOf (plan : Plan) (k : ℕ) (e : Entry) : Type 0 where
  pub goals : CellData
  pub at : slice_get plan.cells.items k ≡ Some goals
  pub is : IsVerdict plan.rules goals e

-- the full matrix of the verdicts
pub record AreVerdicts (plan : Plan) (full : List Entry) : Type 0 where
  pub len : length full ≡ length (cells_of plan.grid)
  pub each : (k : ℕ) (e : Entry) → IsVerdictOf plan k e → e ≡ slice_index_or full k Unknown

-- 0, 1, a verdict of the cell, or claimed by one of 16
abbrev pub IsWord : Plan → ℕ → ℕ → Type 0
IsWord plan k x = (x ≡ 0) ⊎ ((x ≡ 1) ⊎ (((e : Entry) × (x ≡ code e) × IsVerdictOf plan k e) ⊎ ((8 < x) × (x ≤ 24))))

-- the machine of cells comes to these words by events each of which was allowed
pub record IsReached (plan : Plan) (words : List ℕ) (full : List Entry) : Type 0 where
  pub events : List Event
  pub plays : Plays plan.grid full (replicate (count_of plan) Free) events (states_of (count_of plan) words)

-- what a view says is so of the words
pub record Fits (plan : Plan) (words : List ℕ) (u : View) : Type 0 where
  pub known_long : length u.known ≡ count_of plan
  pub noted_long : length u.noted ≡ count_of plan
  pub high : u.number ≤ 16
  pub known : (k : ℕ) (e : Entry) → known_in u.known k ≡ Some e → word_at words k ≡ code e
  pub noted : (k : ℕ) → noted_in u.noted k ≡ true → word_at words k ≡ 1
  pub claim : (k : ℕ) → u.claim ≡ Some k → (k < count_of plan) × ((word_at words k ≡ 8 + u.number) ⊎ (word_at words k ≡ 1))

-- one of these views is so
abbrev pub Has : List View → (View → Type 0) → Type 0
Has views P = (i : ℕ) × (u : View) × (get_elem? views i ≡ some u) × P u

-- one view is the first seat's, and it lists the numbers that are out
pub record Headed (views : List View) : Type 0 where
  pub id : ℕ
  pub head : View
  pub at : get_elem? views id ≡ some head
  pub one : head.number ≡ 1
  pub long : length head.out ≡ 17
  pub low : 1 ≤ head.given
  pub high : head.given ≤ 16
  pub listed : (i : ℕ) (u : View) → get_elem? views i ≡ some u → 1 < u.number → noted_in head.out u.number ≡ true
  pub only : (m : ℕ) → noted_in head.out m ≡ true → (1 < m) × (m ≤ head.given) × Has views (λ u. u.number ≡ m)

-- the rule; a view with the number 0 is that of a seat that was taken in by another
pub record Kept (plan : Plan) (words : List ℕ) (views : List View) : Type 0 where
  pub right : IsPlan plan
  pub long : count_of plan ≤ length words
  pub spare : (k : ℕ) → count_of plan ≤ k → word_at words k ≡ 0
  pub reached : (full : List Entry) → AreVerdicts plan full → IsReached plan words full
  pub legal : (k : ℕ) → k < count_of plan → IsWord plan k (word_at words k)
  pub fits : (i : ℕ) (u : View) → get_elem? views i ≡ some u → 0 < u.number → Fits plan words u
  pub apart : (i j : ℕ) (u w : View) → get_elem? views i ≡ some u → get_elem? views j ≡ some w → 0 < u.number → u.number ≡ w.number → i ≡ j
  pub headed : Headed views
  pub claimed : (k m : ℕ) → k < count_of plan → word_at words k ≡ 8 + m → 0 < m → Has views (λ u. (u.number ≡ m) × (u.claim ≡ Some k))
  pub shown : (k : ℕ) → k < count_of plan → word_at words k ≡ 1 → IsShown plan.grid (settled_words (count_of plan) words) k
  pub settled_known : (k : ℕ) (e : Entry) → k < count_of plan → word_at words k ≡ code e → Has views (λ u. (0 < u.number) × (known_in u.known k ≡ Some e))
  pub cancelled_noted : (k : ℕ) → k < count_of plan → word_at words k ≡ 1 → Has views (λ u. (0 < u.number) × (noted_in u.noted k ≡ true))

abbrev pub KeptOf : Plan → State ℕ View → Type 0
KeptOf plan s = Kept plan s.words s.views

-- the view of the first seat of a board with so many cells
abbrev pub first_of : ℕ → View
first_of n = record { number = 1; known = replicate n None; noted = replicate n false; claim = None; looks = 0; refreshes = 0; given = 1; out = replicate 17 false }

abbrev pub first_view : Plan → View
first_view plan = first_of (count_of plan)

-- words that keep the rule show a state of the machine of cells
abbrev pub ShowsBoard : Plan → Type 0
ShowsBoard plan = (words : List ℕ) (views : List View) → Kept plan words views → (full : List Entry) → AreVerdicts plan full →
    IsBoard plan.grid full (states_of (count_of plan) words)
