use Rattle.std.proofs.Common.{◌≡◌}
use Rattle.fp_fun.proofs.cells.cell_lines.Given as goal

abbrev pub invariant-loop-cell : goal.invariant-loop-cell
invariant-loop-cell l = l.proof ≡ l.fn.proof
