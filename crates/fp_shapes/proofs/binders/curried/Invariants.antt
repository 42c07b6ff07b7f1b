use Rattle.std.proofs.Common.{◌≡◌, ◌≤◌, drop, length}
use Rattle.fp_shapes.specs.Binders.{curried}
use Rattle.fp_shapes.proofs.binders.curried.Given as goal

abbrev pub invariant-loop-at : goal.invariant-loop-at
invariant-loop-at l = (l.at ≤ length l.vars) × (l.made ≡ curried (drop l.at l.vars) l.fn.to)

abbrev pub decreases-loop-at : goal.decreases-loop-at
decreases-loop-at l = l.at
