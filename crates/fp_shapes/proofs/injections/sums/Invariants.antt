use Rattle.std.proofs.Common.{◌≡◌, ◌<◌, drop, length}
use Rattle.fp_shapes.specs.Sums.{sums}
use Rattle.fp_shapes.proofs.injections.sums.Given as goal

abbrev pub invariant-loop-at : goal.invariant-loop-at
invariant-loop-at l = (l.at < length l.tys) × (l.made ≡ sums (drop l.at l.tys))

abbrev pub decreases-loop-at : goal.decreases-loop-at
decreases-loop-at l = l.at
