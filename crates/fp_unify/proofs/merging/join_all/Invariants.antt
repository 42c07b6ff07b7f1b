use Rattle.std.proofs.Common.{◌+◌, length}
use Rattle.fp_unify.specs.Cells.{weights, Reaches}
use Rattle.fp_unify.proofs.merging.join_all.Given as goal

abbrev pub invariant-loop-pair : goal.invariant-loop-pair
invariant-loop-pair l = Reaches l.initial.cells l.initial.pending.items l.cells l.pending.items

abbrev pub decreases-loop-pair : goal.decreases-loop-pair
decreases-loop-pair l = weights l.cells + length l.pending.items
