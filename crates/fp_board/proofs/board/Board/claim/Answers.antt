use Rattle.std.proofs.Common.{rules, subst, sym, ◌<◌, ℕ}
use Rattle.fp_board_rule.specs.declared.plan.Plan.{Plan}
use Rattle.fp_board_rule.specs.Rule.{count_of}
use Rattle.fp_board_rule.proofs.Keeps.{claims_by}
use Rattle.fp_board.proofs.board.Board.claim.Goals as goal

pub compare_exchange-found-requires : goal.compare_exchange-found-requires
compare_exchange-found-requires c = let board = c.args.self.now in let seat = c.args.seat.now in
    (search rules, search rules, claims_by _ _ _ _ _ _ (search rules) (subst (λ (q : Plan). c.args.k < count_of q) (sym board.keyed) c.requires.cell) (subst (λ (q : ℕ). 0 < q) (sym seat.agrees.same_number) seat.numbered.0) c.requires.idle)
