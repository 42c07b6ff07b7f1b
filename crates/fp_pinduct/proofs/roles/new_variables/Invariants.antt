use Rattle.std.proofs.Common.{◌≡◌}
use Rattle.fp_pinduct.proofs.roles.new_variables.Given as goal

abbrev pub invariant-loop-ty : goal.invariant-loop-ty
invariant-loop-ty l = l.proof ≡ l.fn.proof
