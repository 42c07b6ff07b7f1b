use Rattle.std.proofs.Common.{◌≡◌, ◌≤◌, drop, length}
use Rattle.fp_shapes.specs.Joined.{before}
use Rattle.fp_shapes.proofs.joined.before.Given as goal

abbrev pub invariant-loop-at : goal.invariant-loop-at
invariant-loop-at l = (l.at ≤ length l.firsts) × (l.made ≡ before (drop l.at l.firsts) l.last)

abbrev pub decreases-loop-at : goal.decreases-loop-at
decreases-loop-at l = l.at
