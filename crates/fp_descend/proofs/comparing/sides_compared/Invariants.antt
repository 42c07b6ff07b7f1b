use Rattle.std.proofs.Common.{◌≡◌}
use Rattle.fp_descend.proofs.comparing.sides_compared.Given as goal

abbrev pub invariant-loop-outer : goal.invariant-loop-outer
invariant-loop-outer l = l.proof ≡ l.fn.proof
