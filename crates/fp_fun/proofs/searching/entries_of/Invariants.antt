use Rattle.std.proofs.Common.{◌≡◌, length}
use Rattle.fp_fun.proofs.searching.entries_of.Given as goal

abbrev pub invariant-loop-cell : goal.invariant-loop-cell
invariant-loop-cell l = length l.entries.items ≡ l.cell-index
