use Rattle.std.proofs.Common.{rules, subst, sym, ◌<◌, ℕ}
use Rattle.fp_board_rule.specs.declared.plan.Plan.{Plan}
use Rattle.fp_board_rule.specs.Rule.{count_of}
use Rattle.fp_shown.specs.Shown.{IsShown}
use Rattle.fp_board_rule.proofs.Keeps.{cancels}
use Rattle.fp_board.proofs.board.Board.cancel.Goals as goal

pub compare_exchange-found-requires : goal.compare_exchange-found-requires
compare_exchange-found-requires c = let board = c.args.self.now in let seat = c.args.seat.now in
    (search rules, search rules, cancels _ _ _ _ _ _ (subst (λ (q : Plan). c.args.k < count_of q) (sym board.keyed) c.requires.cell) (subst (λ (q : ℕ). 0 < q) (sym seat.agrees.same_number) seat.numbered.0) c.requires.expected (subst (λ (q : Plan). IsShown q.grid seat.token.me.0.known c.args.k) (sym board.keyed) c.requires.shown))
