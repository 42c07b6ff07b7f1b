use Rattle.std.proofs.Common.{take}
use Rattle.fp_admit.specs.Admitted.{AreEach, IsHeadOf}
use Rattle.fp_admit.proofs.taking.heads_of.Given as goal

abbrev pub invariant-loop-name : goal.invariant-loop-name
invariant-loop-name l = AreEach IsHeadOf (take l.name-index l.exact) l.heads
