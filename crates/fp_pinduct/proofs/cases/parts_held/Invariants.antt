use Rattle.std.proofs.Common.{◌≡◌}
use Rattle.fp_pinduct.proofs.cases.parts_held.Given as goal

abbrev pub invariant-loop-role : goal.invariant-loop-role
invariant-loop-role l = l.proof ≡ l.fn.proof
