use Rattle.std.proofs.Common.{◌≡◌}
use Rattle.fp_descend.proofs.descent.in_relation.Given as goal

abbrev pub invariant-loop-step : goal.invariant-loop-step
invariant-loop-step l = l.proof ≡ l.fn.proof
