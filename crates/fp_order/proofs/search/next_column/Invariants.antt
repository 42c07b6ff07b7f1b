use Rattle.fp_order.specs.Matrix.{entry_of}
use Rattle.fp_order.specs.Greedy.{NoneFits, IsLeft}
use Rattle.fp_order.proofs.search.next_column.Given as goal

abbrev pub invariant-loop-column : goal.invariant-loop-column
invariant-loop-column l = NoneFits (entry_of l.m) l.column (IsLeft l.decided)
