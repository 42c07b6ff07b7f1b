use Rattle.fp_board_rule.proofs.Shows.{shows_board}
use Rattle.fp_board_rule.proofs.laws.words_show_board.Goals as goal

pub returns : goal.returns
returns c = shows_board c.args.plan.now
