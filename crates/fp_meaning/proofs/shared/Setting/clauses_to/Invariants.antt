use Rattle.std.proofs.Common.{◌≡◌}
use Rattle.fp_meaning.proofs.shared.Setting.clauses_to.Given as goal

abbrev pub invariant-loop-j : goal.invariant-loop-j
invariant-loop-j l = l.proof ≡ l.fn.proof
