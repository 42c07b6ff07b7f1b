-- The columns and the cells of a grid, in their order.
use Rattle.std.specs.Prelude.{◌≡◌, ◌<◌, ◌^◌, ◌==◌, ◌&&◌, ℕ, zero, suc, Bool, List, [], ◌∷◌, ◌++◌, map, take, length, slice_index, slice_index_or, if◌then◌else◌, Option, None, Some}
use Rattle.std.specs.List.{flat_map}
use Rattle.std.specs.Option.{option_map}
use Rattle.fp_order.specs.declared.grid.Grid.{Grid}
use Rattle.fp_order.specs.declared.grid.Cell.{Cell}

-- the numbers below `n`, in order
abbrev pub below : ℕ → List ℕ
below zero = []
below (suc n) = below n ++ n ∷ []

-- each number below `n`, in order, before each of the lists
abbrev pub prefixed : ℕ → List (List ℕ) → List (List ℕ)
prefixed zero lists = []
prefixed (suc n) lists = prefixed n lists ++ map (λ xs. n ∷ xs) lists

-- the choices of one measure per function, in dictionary order
abbrev pub choices : List ℕ → List (List ℕ)
choices [] = [] ∷ []
choices (n ∷ ns) = prefixed n (choices ns)

-- the columns are the first 256 choices
abbrev pub columns_of : List ℕ → List (List ℕ)
columns_of functions = take 256 (choices functions)

-- a row's caller and callee
abbrev pub caller : Grid → ℕ → ℕ
caller g r = (slice_index_or g.rows r (0, 0)).0

abbrev pub callee : Grid → ℕ → ℕ
callee g r = (slice_index_or g.rows r (0, 0)).1

-- how many measures a row's caller and its callee have
abbrev pub sources : Grid → ℕ → ℕ
sources g r = slice_index g.functions (caller g r)

abbrev pub targets : Grid → ℕ → ℕ
targets g r = slice_index g.functions (callee g r)

-- each caller and callee is one of the functions, and rows can be counted
pub record IsGrid (g : Grid) : Type 0 where
  pub callers : (r : ℕ) → r < length g.rows → caller g r < length g.functions
  pub callees : (r : ℕ) → r < length g.rows → callee g r < length g.functions
  pub few : length g.rows < 2 ^ 32

-- a cell of the grid
pub record IsCell (g : Grid) (x : Cell) : Type 0 where
  pub row : x.row < length g.rows
  pub source : x.source < sources g x.row
  pub target : x.target < targets g x.row

-- a column of these functions: each choice is one of the function's measures
pub record IsColumn (functions column : List ℕ) : Type 0 where
  pub len : length column ≡ length functions
  pub below : (f : ℕ) → f < length functions → slice_index column f < slice_index functions f

-- the cell of a column on a row
abbrev pub cell_on : Grid → List ℕ → ℕ → Cell
cell_on g column r = record { row = r; source = slice_index column (caller g r); target = slice_index column (callee g r) }

-- the cells of a column, row by row
abbrev pub column_cells : Grid → List ℕ → List Cell
column_cells g column = map (cell_on g column) (below (length g.rows))

-- the cells of a row and a source, by target
abbrev pub source_cells : Grid → ℕ → ℕ → List Cell
source_cells g r s = map (λ t. record { row = r; source = s; target = t }) (below (targets g r))

-- the cells of a row, by source and then target
abbrev pub row_cells : Grid → ℕ → List Cell
row_cells g r = flat_map (source_cells g r) (below (sources g r))

abbrev pub same_cell : Cell → Cell → Bool
same_cell x y = x.row == y.row && x.source == y.source && x.target == y.target

-- the number of a cell among cells, which is the place where it stands first
abbrev pub number_in : List Cell → Cell → Option ℕ
number_in [] x = None
number_in (y ∷ cells) x = if same_cell y x then Some 0 else option_map suc (number_in cells x)

-- the cells with one more, where it has no number yet
abbrev pub added : List Cell → Cell → Option ℕ → List Cell
added cells x (Some k) = cells
added cells x None = cells ++ x ∷ []

-- the cells with more of them, one after another
abbrev pub all_added : List Cell → List Cell → List Cell
all_added cells [] = cells
all_added cells (x ∷ more) = all_added (added cells x (number_in cells x)) more

-- each cell once: first those of the columns, column by column, then all others, row by row
abbrev pub cells_of : Grid → List Cell
cells_of g = all_added [] (flat_map (column_cells g) (columns_of g.functions) ++ flat_map (row_cells g) (below (length g.rows)))
