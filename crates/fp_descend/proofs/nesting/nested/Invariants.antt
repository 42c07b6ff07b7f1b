use Rattle.std.proofs.Common.{◌≡◌, ◌≤◌, length}
use Rattle.fp_descend.proofs.nesting.nested.Given as goal

abbrev pub invariant-loop-at : goal.invariant-loop-at
invariant-loop-at l = (l.proof ≡ l.fn.proof) × (l.at ≤ length l.ranks)

abbrev pub decreases-loop-at : goal.decreases-loop-at
decreases-loop-at l = l.at
