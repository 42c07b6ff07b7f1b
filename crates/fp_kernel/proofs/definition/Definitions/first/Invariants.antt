use Rattle.std.proofs.Common.{◌≡◌, ◌≤◌, length}
use Rattle.fp_kernel.specs.Definitions.{oldest}
use Rattle.fp_kernel.proofs.definition.Definitions.first.Given as goal

abbrev pub invariant-loop-list : goal.invariant-loop-list
invariant-loop-list l = (oldest l.level l.list ≡ oldest l.level l.self) × (l.level ≤ length l.list)

abbrev pub decreases-loop-list : goal.decreases-loop-list
decreases-loop-list l = length l.list
