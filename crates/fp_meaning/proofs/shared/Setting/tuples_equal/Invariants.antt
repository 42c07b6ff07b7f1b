use Rattle.std.proofs.Common.{◌≡◌}
use Rattle.fp_meaning.proofs.shared.Setting.tuples_equal.Given as goal

abbrev pub invariant-loop : goal.invariant-loop
invariant-loop l = l.proof ≡ l.fn.proof
