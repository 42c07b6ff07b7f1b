use Rattle.std.proofs.Common.{rules, subst, sym, ◌<◌, ℕ}
use Rattle.fp_board_rule.proofs.Seats.{joins}
use Rattle.fp_board.proofs.board.Board.join.Goals as goal

pub join_seat-requires : goal.join_seat-requires
join_seat-requires c = let other = c.args.other in
    (search rules, search rules, search rules, search rules, joins _ _ _ _ _ c.requires.first (subst (λ (q : ℕ). 0 < q) (sym other.agrees.same_number) other.numbered.0) c.requires.idle)
