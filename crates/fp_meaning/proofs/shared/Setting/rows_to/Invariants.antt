use Rattle.std.proofs.Common.{◌≡◌}
use Rattle.fp_meaning.proofs.shared.Setting.rows_to.Given as goal

abbrev pub invariant-loop-q : goal.invariant-loop-q
invariant-loop-q l = l.proof ≡ l.fn.proof
