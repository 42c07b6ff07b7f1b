-- The entries of a matrix as a function of column and row.
use Rattle.std.specs.Prelude.{◌<◌, ◌+◌, ◌*◌, ℕ, slice_index_or}
use Rattle.fp_order.specs.declared.entry.Entry.{Entry}
use Rattle.fp_order.specs.declared.entry.Entry.TheVariants.{Unknown}
use Rattle.fp_order.specs.declared.matrix.Matrix.{Matrix}

-- the entry of a column on a row
abbrev pub entry_of : Matrix → ℕ → ℕ → Entry
entry_of m column row = slice_index_or m.entries (row * m.columns + column) Unknown

-- the rows of a matrix
abbrev pub RowOf : Matrix → ℕ → Type 0
RowOf m row = row < m.rows
