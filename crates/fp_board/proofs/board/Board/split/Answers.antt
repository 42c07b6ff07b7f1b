use Rattle.std.proofs.Common.{rules}
use Rattle.fp_board_rule.proofs.Seats.{splits}
use Rattle.fp_board.proofs.board.Board.split.Goals as goal

pub split_seat-token-requires : goal.split_seat-token-requires
split_seat-token-requires c = (search rules, search rules, splits _ _ _ c.requires.first c.requires.room)
