use Rattle.fp_board.specs.Seats.{IsOf}
use Rattle.fp_board_tests.proofs.steps.settle_first.Given as goal

abbrev pub invariant-loop-k : goal.invariant-loop-k
invariant-loop-k l = IsOf l.board l.seat
