use Rattle.std.proofs.Common.{rules, subst, sym, ◌<◌, ℕ}
use Rattle.fp_board_rule.specs.declared.plan.Plan.{Plan}
use Rattle.fp_board_rule.specs.Rule.{count_of}
use Rattle.fp_board_rule.proofs.Keeps.{looks}
use Rattle.fp_board.proofs.board.Board.look.Goals as goal

pub load-word-requires : goal.load-word-requires
load-word-requires c = let board = c.args.self.now in let seat = c.args.seat.now in
    (search rules, search rules, looks _ _ _ _ _ (subst (λ (q : Plan). c.args.k < count_of q) (sym board.keyed) c.requires.cell) (subst (λ (q : ℕ). 0 < q) (sym seat.agrees.same_number) seat.numbered.0))
