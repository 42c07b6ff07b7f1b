use Rattle.std.proofs.Common.{◌≡◌}
use Rattle.fp_det.proofs.prove.rights.Given as goal

abbrev pub invariant-loop-j : goal.invariant-loop-j
invariant-loop-j l = l.proof ≡ l.fn.proof
