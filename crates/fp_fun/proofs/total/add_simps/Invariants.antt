use Rattle.std.proofs.Common.{◌≡◌}
use Rattle.fp_fun.specs.Ready.{AreReady}
use Rattle.fp_fun.proofs.total.add_simps.Given as goal

abbrev pub invariant-loop-psimp : goal.invariant-loop-psimp
invariant-loop-psimp l = (l.proof ≡ l.fn.proof) × AreReady l.fn.proof l.theorems
