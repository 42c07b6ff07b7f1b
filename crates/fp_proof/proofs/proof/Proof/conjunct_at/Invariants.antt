use Rattle.std.proofs.Common.{◌≡◌}
use Rattle.fp_proof.proofs.proof.Proof.conjunct_at.Given as goal

abbrev pub invariant-loop : goal.invariant-loop
invariant-loop l = l.self ≡ l.fn.self
