use Rattle.std.proofs.Common.{◌≡◌, ◌++◌, drop}
use Rattle.fp_report.specs.Matrices.{cells_after}
use Rattle.fp_report.proofs.matrix.push_cells_after.Given as goal

-- what is left goes behind the text
abbrev pub invariant-loop-cell : goal.invariant-loop-cell
invariant-loop-cell l = l.text.items ++ cells_after (drop l.cell-index l.cells) ≡ l.fn.text.items ++ cells_after l.cells
