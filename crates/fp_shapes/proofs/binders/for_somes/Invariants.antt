use Rattle.std.proofs.Common.{◌≡◌, ◌≤◌, drop, length}
use Rattle.fp_shapes.specs.Binders.{for_somes}
use Rattle.fp_shapes.proofs.binders.for_somes.Given as goal

abbrev pub invariant-loop-at : goal.invariant-loop-at
invariant-loop-at l = (l.at ≤ length l.vars) × (l.made ≡ for_somes (drop l.at l.vars) l.term)

abbrev pub decreases-loop-at : goal.decreases-loop-at
decreases-loop-at l = l.at
