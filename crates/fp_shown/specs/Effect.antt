-- Which cells of a partial matrix have no effect on the result of a search: its ranks, the deciding positions and what is left.
use Rattle.std.specs.Prelude.{◌≡◌, ◌<◌, ◌⊎◌, ◌↔◌, ℕ, List, length, slice_index_or, Option, Some, None}
use Rattle.fp_order.specs.declared.entry.Entry.{Entry}
use Rattle.fp_order.specs.declared.entry.Entry.TheVariants.{Unknown}
use Rattle.fp_order.specs.declared.grid.Grid.{Grid}
use Rattle.fp_order.specs.Grid.{cells_of}
use Rattle.fp_level.specs.declared.rank.Found.{Found}
use Rattle.fp_level.specs.Result.{IsResult}
use Rattle.fp_shown.specs.Fillings.{IsFilling}
use Rattle.fp_shown.specs.Shown.{row_of, IsShown}

-- the matrices have the same entry of the cell
abbrev pub AgreeAt : List Entry → List Entry → ℕ → Type 0
AgreeAt full other k = slice_index_or full k Unknown ≡ slice_index_or other k Unknown

-- the search finds the same on both, and they have the same cells on the rows that it leaves
pub record SameResult (g : Grid) (full other : List Entry) : Type 0 where
  pub found : (f : Found) → IsResult g full f ↔ IsResult g other f
  pub left : (f : Found) → IsResult g full f → (row : ℕ) → row < length g.rows → slice_index_or f.decided row None ≡ None →
      (k : ℕ) → row_of g k ≡ row → AgreeAt full other k

-- two fillings that agree off the cell have one result
abbrev pub IsFreeOfEffect : Grid → List (Option Entry) → ℕ → Type 0
IsFreeOfEffect g known cell = (full other : List Entry) → IsFilling known full → IsFilling known other →
    ((k : ℕ) → (k ≡ cell → ⊥) → AgreeAt full other k) → SameResult g full other

-- two fillings that agree on the cells of the rows left by the forced columns have one result
abbrev pub RowsLeftDecide : Grid → Type 0
RowsLeftDecide g = (known : List (Option Entry)) → length known ≡ length (cells_of g) →
    (full other : List Entry) → IsFilling known full → IsFilling known other →
    ((k : ℕ) → k < length (cells_of g) → (IsShown g known k → ⊥) → AgreeAt full other k) → SameResult g full other

-- a shown cell is free of effect
abbrev pub ShownIsFree : Grid → Type 0
ShownIsFree g = (known : List (Option Entry)) → length known ≡ length (cells_of g) →
    (cell : ℕ) → IsShown g known cell → IsFreeOfEffect g known cell

-- where each cell is known or shown, each two fillings have one result
abbrev pub ClosedHasOneResult : Grid → Type 0
ClosedHasOneResult g = (known : List (Option Entry)) → length known ≡ length (cells_of g) →
    ((k : ℕ) → k < length (cells_of g) → ((v : Entry) × (slice_index_or known k None ≡ Some v)) ⊎ IsShown g known k) →
    (full other : List Entry) → IsFilling known full → IsFilling known other → SameResult g full other
