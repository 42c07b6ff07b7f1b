use Rattle.std.proofs.Common.{◌≡◌}
use Rattle.fp_proof.proofs.proof.Proof.contracted_all.Given as goal

abbrev pub invariant-loop-term : goal.invariant-loop-term
invariant-loop-term l = l.self ≡ l.fn.self
