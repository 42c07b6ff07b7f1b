use Rattle.std.proofs.Common.{◌≡◌}
use Rattle.fp_descend.proofs.comparing.with_all.Given as goal

abbrev pub invariant-loop-at : goal.invariant-loop-at
invariant-loop-at l = l.proof ≡ l.fn.proof

abbrev pub decreases-loop-at : goal.decreases-loop-at
decreases-loop-at l = l.at
