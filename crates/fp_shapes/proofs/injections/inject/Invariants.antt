use Rattle.std.proofs.Common.{◌≡◌, ◌-◌, ◌≤◌, drop}
use Rattle.fp_shapes.specs.Sums.{inject}
use Rattle.fp_shapes.proofs.injections.inject.Given as goal

abbrev pub invariant-loop-at : goal.invariant-loop-at
invariant-loop-at l = (l.at ≤ l.index) × (l.made ≡ inject (drop l.at l.tys) (l.index - l.at) l.term)

abbrev pub decreases-loop-at : goal.decreases-loop-at
decreases-loop-at l = l.at
