use Rattle.std.proofs.Common.{◌≡◌}
use Rattle.fp_fun.specs.Ready.{AreReady}
use Rattle.fp_fun.proofs.total.add_inducts.Given as goal

abbrev pub invariant-loop-pinduct : goal.invariant-loop-pinduct
invariant-loop-pinduct l = (l.proof ≡ l.fn.proof) × AreReady l.fn.proof l.theorems
