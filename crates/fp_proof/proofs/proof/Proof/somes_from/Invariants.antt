use Rattle.std.proofs.Common.{◌≡◌, ◌≤◌, length}
use Rattle.fp_proof.proofs.proof.Proof.somes_from.Given as goal

abbrev pub invariant-loop-at : goal.invariant-loop-at
invariant-loop-at l = (l.self ≡ l.fn.self) × (l.at ≤ length l.vars)

abbrev pub decreases-loop-at : goal.decreases-loop-at
decreases-loop-at l = l.at
