use Rattle.std.proofs.Common.{◌≡◌}
use Rattle.fp_fun.specs.Ready.{AreReady}
use Rattle.fp_fun.proofs.proving.add_psimps.Given as goal

abbrev pub invariant-loop-index : goal.invariant-loop-index
invariant-loop-index l = (l.proof ≡ l.fn.proof) × AreReady l.fn.proof l.theorems
