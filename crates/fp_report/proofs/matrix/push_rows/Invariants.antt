use Rattle.std.proofs.Common.{◌≡◌, ◌++◌, drop}
use Rattle.fp_report.specs.Matrices.{row_lines}
use Rattle.fp_report.proofs.matrix.push_rows.Given as goal

-- what is left goes behind the text
abbrev pub invariant-loop-row : goal.invariant-loop-row
invariant-loop-row l = l.text.items ++ row_lines l.number (drop l.row-index l.rows) ≡ l.fn.text.items ++ row_lines 1 l.rows
