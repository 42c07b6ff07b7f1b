use Rattle.std.proofs.Common.{◌≡◌}
use Rattle.fp_proof.proofs.proof.Proof.mp_all.Given as goal

abbrev pub invariant-loop-line : goal.invariant-loop-line
invariant-loop-line l = l.self ≡ l.fn.self
