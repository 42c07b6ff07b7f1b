use Rattle.std.proofs.Common.{◌≡◌}
use Rattle.fp_alike.proofs.call.add_assumed.Given as goal

abbrev pub invariant-loop-formula : goal.invariant-loop-formula
invariant-loop-formula l = l.proof ≡ l.fn.proof
