use Rattle.std.proofs.Common.{◌≡◌}
use Rattle.fp_meaning.proofs.defining.row_rules.Given as goal

abbrev pub invariant-loop-index : goal.invariant-loop-index
invariant-loop-index l = l.proof ≡ l.fn.proof
