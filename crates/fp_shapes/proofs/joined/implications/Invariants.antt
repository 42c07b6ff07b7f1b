use Rattle.std.proofs.Common.{◌≡◌, ◌≤◌, drop, length}
use Rattle.fp_shapes.specs.Joined.{implications}
use Rattle.fp_shapes.proofs.joined.implications.Given as goal

abbrev pub invariant-loop-at : goal.invariant-loop-at
invariant-loop-at l = (l.at ≤ length l.premises) × (l.made ≡ implications (drop l.at l.premises) l.last)

abbrev pub decreases-loop-at : goal.decreases-loop-at
decreases-loop-at l = l.at
