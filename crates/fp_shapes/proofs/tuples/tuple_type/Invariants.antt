use Rattle.std.proofs.Common.{◌≡◌, ◌<◌, drop, length}
use Rattle.fp_shapes.specs.Tuples.{tuple_type}
use Rattle.fp_shapes.proofs.tuples.tuple_type.Given as goal

abbrev pub invariant-loop-at : goal.invariant-loop-at
invariant-loop-at l = (l.at < length l.tys) × (l.made ≡ tuple_type (drop l.at l.tys))

abbrev pub decreases-loop-at : goal.decreases-loop-at
decreases-loop-at l = l.at
