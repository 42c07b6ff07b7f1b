use Rattle.std.proofs.Common.{◌≡◌}
use Rattle.fp_pinduct.proofs.cases.calls_answered.Given as goal

abbrev pub invariant-loop-row : goal.invariant-loop-row
invariant-loop-row l = l.proof ≡ l.fn.proof
