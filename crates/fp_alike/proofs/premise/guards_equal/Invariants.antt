use Rattle.std.proofs.Common.{◌≡◌}
use Rattle.fp_alike.proofs.premise.guards_equal.Given as goal

abbrev pub invariant-loop-number : goal.invariant-loop-number
invariant-loop-number l = l.proof ≡ l.fn.proof
