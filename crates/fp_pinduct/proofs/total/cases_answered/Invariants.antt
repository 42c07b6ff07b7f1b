use Rattle.std.proofs.Common.{◌≡◌}
use Rattle.fp_pinduct.proofs.total.cases_answered.Given as goal

abbrev pub invariant-loop-number : goal.invariant-loop-number
invariant-loop-number l = l.proof ≡ l.fn.proof
