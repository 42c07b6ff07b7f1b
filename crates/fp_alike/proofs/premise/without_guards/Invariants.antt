use Rattle.std.proofs.Common.{◌≡◌}
use Rattle.fp_alike.proofs.premise.without_guards.Given as goal

abbrev pub invariant-loop-guard : goal.invariant-loop-guard
invariant-loop-guard l = l.proof ≡ l.fn.proof
