use Rattle.std.proofs.Common.{◌≡◌, take}
use Rattle.fp_board_rule.specs.Steps.{both, or_known}
use Rattle.fp_board.proofs.learning.learn_known.Given as goal

abbrev pub invariant-loop-k : goal.invariant-loop-k
invariant-loop-k l = l.known ≡ both or_known l.initial.known (take l.k l.other)
