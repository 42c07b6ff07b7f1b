use Rattle.std.proofs.Common.{◌≡◌}
use Rattle.fp_pinduct.proofs.pinduct.clause_steps.Given as goal

abbrev pub invariant-loop-number : goal.invariant-loop-number
invariant-loop-number l = l.proof ≡ l.fn.proof
