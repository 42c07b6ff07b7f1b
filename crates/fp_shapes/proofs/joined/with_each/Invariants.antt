use Rattle.std.proofs.Common.{◌≡◌, ◌≤◌, drop, length}
use Rattle.fp_shapes.specs.Joined.{with_each}
use Rattle.fp_shapes.proofs.joined.with_each.Given as goal

abbrev pub invariant-loop-at : goal.invariant-loop-at
invariant-loop-at l = (l.at ≤ length l.firsts) × (l.made ≡ with_each (drop l.at l.firsts) l.last)

abbrev pub decreases-loop-at : goal.decreases-loop-at
decreases-loop-at l = l.at
