use Rattle.std.proofs.Common.{◌≡◌}
use Rattle.fp_proof.proofs.proof.Proof.combined_all.Given as goal

abbrev pub invariant-loop-equation : goal.invariant-loop-equation
invariant-loop-equation l = l.self ≡ l.fn.self
