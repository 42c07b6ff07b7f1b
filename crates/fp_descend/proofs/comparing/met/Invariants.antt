use Rattle.std.proofs.Common.{◌≡◌}
use Rattle.fp_descend.proofs.comparing.met.Given as goal

abbrev pub invariant-loop-index : goal.invariant-loop-index
invariant-loop-index l = l.proof ≡ l.fn.proof
