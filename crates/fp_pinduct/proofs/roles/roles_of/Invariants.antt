use Rattle.std.proofs.Common.{◌≡◌}
use Rattle.fp_pinduct.proofs.roles.roles_of.Given as goal

abbrev pub invariant-loop-head : goal.invariant-loop-head
invariant-loop-head l = l.proof ≡ l.fn.proof
