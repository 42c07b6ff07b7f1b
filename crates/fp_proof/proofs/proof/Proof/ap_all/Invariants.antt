use Rattle.std.proofs.Common.{◌≡◌}
use Rattle.fp_proof.proofs.proof.Proof.ap_all.Given as goal

abbrev pub invariant-loop-function : goal.invariant-loop-function
invariant-loop-function l = l.self ≡ l.fn.self
