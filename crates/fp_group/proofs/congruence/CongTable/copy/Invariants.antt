use Rattle.std.proofs.Common.{◌≡◌, take}
use Rattle.fp_group.proofs.congruence.CongTable.copy.Given as goal

abbrev pub invariant-loop-rule : goal.invariant-loop-rule
invariant-loop-rule l = l.rules ≡ take l.rule-index l.self.rules
