-- Where cells stand row by row, and the numbers that are kept there.
use Rattle.std.specs.Prelude.{◌≡◌, ◌≤◌, ◌+◌, ◌*◌, ℕ, zero, suc, List, length, slice_index, slice_index_or, Option, None}
use Rattle.std.specs.Option.{unwrap_or}
use Rattle.fp_order.specs.declared.grid.Grid.{Grid}
use Rattle.fp_order.specs.declared.grid.Cell.{Cell}
use Rattle.fp_order.specs.declared.numbering.CellTable.{CellTable}
use Rattle.fp_order.specs.declared.numbering.Numbered.{Numbered}
use Rattle.fp_order.specs.Grid.{sources, targets, IsCell, number_in, all_added, cells_of}

-- the number of a cell of the grid
abbrev pub number_of : Grid → Cell → ℕ
number_of g x = unwrap_or (number_in (cells_of g) x) 0

-- how many cells the rows before `r` have
abbrev pub start : Grid → ℕ → ℕ
start g zero = 0
start g (suc r) = start g r + sources g r * targets g r

-- where a cell stands when all stand by row, source and target
abbrev pub place_of : Grid → Cell → ℕ
place_of g x = start g x.row + (x.source * targets g x.row + x.target)

-- the list has the start of each row and the end of the last
pub record IsStarts (g : Grid) (starts : List ℕ) : Type 0 where
  pub len : length starts ≡ length g.rows + 1
  pub each : (r : ℕ) → r ≤ length g.rows → slice_index starts r ≡ start g r

-- each cell's number among these stands at its place
abbrev pub TellsNumbers : Grid → List Cell → List (Option ℕ) → Type 0
TellsNumbers g cells numbers = (x : Cell) → IsCell g x → slice_index_or numbers (place_of g x) None ≡ number_in cells x

-- a table of the grid's cells and their numbers
pub record IsTable (g : Grid) (t : CellTable) : Type 0 where
  pub cells : t.cells.items ≡ cells_of g
  pub starts : IsStarts g t.starts.items
  pub len : length t.numbers.items ≡ start g (length g.rows)
  pub numbers : TellsNumbers g (cells_of g) t.numbers.items

-- the numbers stand at their places
pub record IsNumbered (g : Grid) (n : Numbered) : Type 0 where
  pub len : length n.numbers.items ≡ start g (length g.rows)
  pub numbers : TellsNumbers g n.cells.items n.numbers.items

-- these cells were added, and have their numbers
pub record Gains (g : Grid) (old new : Numbered) (more : List Cell) : Type 0 where
  pub cells : new.cells.items ≡ all_added old.cells.items more
  pub numbered : IsNumbered g new
