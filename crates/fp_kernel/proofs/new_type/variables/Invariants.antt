use Rattle.std.proofs.Common.{◌≡◌, ◌≤◌, length, drop}
use Rattle.fp_kernel.specs.Start.{variables}
use Rattle.fp_kernel.proofs.new_type.variables.Given as goal

abbrev pub invariant-loop-left : goal.invariant-loop-left
invariant-loop-left l = (l.tys ≡ variables (drop l.left l.names)) × (l.left ≤ length l.names)

abbrev pub decreases-loop-left : goal.decreases-loop-left
decreases-loop-left l = l.left
