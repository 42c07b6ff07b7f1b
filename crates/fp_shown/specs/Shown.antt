-- Which columns of a grid are forced, and which cells are shown.
use Rattle.std.specs.Prelude.{ℕ, List, [], length, slice_index_or, Option}
use Rattle.fp_order.specs.declared.entry.Entry.{Entry}
use Rattle.fp_order.specs.declared.grid.Grid.{Grid}
use Rattle.fp_order.specs.Grid.{columns_of, cell_on, cells_of}
use Rattle.fp_order.specs.Numbers.{number_of}
use Rattle.fp_shown.specs.Fillings.{IsForced, IsShownRow}

-- the number of the cell that a column, by its number, has on a row
unfoldable pub number_on : Grid → ℕ → ℕ → ℕ
number_on g c r = number_of g (cell_on g (slice_index_or (columns_of g.functions) c []) r)

-- the row of a cell, by its number
unfoldable pub row_of : Grid → ℕ → ℕ
row_of g k = (slice_index_or (cells_of g) k (record { row = 0; source = 0; target = 0 })).row

-- the forced columns of a partial matrix
abbrev pub AreForced : Grid → List (Option Entry) → List ℕ → Type 0
AreForced g known columns = IsForced (number_on g) (length (columns_of g.functions)) (length g.rows) known columns

-- the forced columns decide the row in every filling
abbrev pub IsRowShown : Grid → List (Option Entry) → ℕ → Type 0
IsRowShown g known row = IsShownRow (number_on g) (length (columns_of g.functions)) (length g.rows) known row

-- the row of the cell is decided by the forced columns in every filling
unfoldable pub IsShown : Grid → List (Option Entry) → ℕ → Type 0
IsShown g known k = IsRowShown g known (row_of g k)
