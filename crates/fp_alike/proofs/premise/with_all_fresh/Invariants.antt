use Rattle.std.proofs.Common.{◌≡◌}
use Rattle.fp_alike.proofs.premise.with_all_fresh.Given as goal

abbrev pub invariant-loop : goal.invariant-loop
invariant-loop l = l.proof ≡ l.fn.proof
