-- Which seat is one of which board.
use Rattle.std.specs.Prelude.{◌≡◌, length}
use Rattle.fp_board_rule.specs.declared.view.View.{View}
use Rattle.fp_board_rule.specs.Rule.{count_of}
use Rattle.fp_board.specs.declared.board.Board.{Board}
use Rattle.fp_board.specs.declared.seat.Seat.{Seat}
use Rattle.fp_board.specs.declared.seat.Fresh.{Fresh}

-- what the seat knows, as the board's rule sees it
abbrev pub view_of : Seat → View
view_of seat = seat.token.me.0

-- the seat is one of this board
pub record IsOf (board : Board) (seat : Seat) : Type 0 where
  pub table : seat.token.table_id ≡ board.table.shared.table_id
  pub known_long : length (view_of seat).known ≡ count_of board.plan
  pub noted_long : length (view_of seat).noted ≡ count_of board.plan
  pub words_long : length seat.words.items ≡ count_of board.plan

-- the seat has made no refresh since this one
pub record IsLast (fresh : Fresh) (seat : Seat) : Type 0 where
  pub table : fresh.at.value.table_id ≡ seat.token.table_id
  pub id : fresh.at.value.id ≡ seat.token.id
  pub refreshes : fresh.at.value.me.0.refreshes ≡ (view_of seat).refreshes
