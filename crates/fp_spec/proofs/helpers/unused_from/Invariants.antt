use Rattle.std.proofs.Common.{◌≡◌, length}
use Rattle.fp_spec.specs.Helpers.{unused_from}
use Rattle.fp_spec.proofs.helpers.unused_from.Given as goal

abbrev pub invariant-loop-left : goal.invariant-loop-left
invariant-loop-left l = unused_from l.known l.left l.number ≡ unused_from l.known (length l.known) l.from

abbrev pub decreases-loop-left : goal.decreases-loop-left
decreases-loop-left l = l.left
