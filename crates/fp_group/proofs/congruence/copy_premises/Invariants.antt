use Rattle.std.proofs.Common.{◌≡◌, take}
use Rattle.fp_group.proofs.congruence.copy_premises.Given as goal

abbrev pub invariant-loop-premise : goal.invariant-loop-premise
invariant-loop-premise l = l.copies ≡ take l.premise-index l.premises
