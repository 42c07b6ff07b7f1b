use Rattle.std.proofs.Common.{◌≡◌, take, ◌||◌}
use Rattle.fp_board_rule.specs.Steps.{both}
use Rattle.fp_board.proofs.learning.learn_noted.Given as goal

abbrev pub invariant-loop-k : goal.invariant-loop-k
invariant-loop-k l = l.noted ≡ both (λ a b. a || b) l.initial.noted (take l.k l.other)
