use Rattle.std.proofs.Common.{◌≡◌}
use Rattle.fp_fun.specs.Ready.{AreReady}
use Rattle.fp_fun.proofs.proving.add_pinducts.Given as goal

abbrev pub invariant-loop-head : goal.invariant-loop-head
invariant-loop-head l = (l.proof ≡ l.fn.proof) × AreReady l.fn.proof l.theorems
