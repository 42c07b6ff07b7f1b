use Rattle.std.proofs.Common.{◌≡◌}
use Rattle.fp_alike.proofs.premise.at_all.Given as goal

abbrev pub invariant-loop-term : goal.invariant-loop-term
invariant-loop-term l = l.proof ≡ l.fn.proof
