use Rattle.std.proofs.Common.{◌≡◌, ◌++◌, drop}
use Rattle.fp_unify.specs.Cells.{pairs}
use Rattle.fp_unify.proofs.merging.push_pairs.Given as goal

abbrev pub invariant-loop-i : goal.invariant-loop-i
invariant-loop-i l = l.pending.items ++ pairs (drop l.i l.left) (drop l.i l.right) ≡ l.initial.pending.items ++ pairs l.left l.right
