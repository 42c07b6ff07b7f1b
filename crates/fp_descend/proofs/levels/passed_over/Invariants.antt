use Rattle.std.proofs.Common.{◌≡◌}
use Rattle.fp_descend.proofs.levels.passed_over.Given as goal

abbrev pub invariant-loop : goal.invariant-loop
invariant-loop l = l.proof ≡ l.fn.proof
