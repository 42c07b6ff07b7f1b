use Rattle.fp_board.specs.Seats.{IsOf, view_of}
use Rattle.fp_board_rule.specs.Steps.{IsRefreshed}
use Rattle.fp_board.proofs.board.Board.load_all.Given as goal

abbrev pub invariant-loop-k : goal.invariant-loop-k
invariant-loop-k l = record {
  of : IsOf l.self l.seat;
  told : IsRefreshed (view_of l.initial.seat) (view_of l.seat) l.seat.words.items l.k;
}
