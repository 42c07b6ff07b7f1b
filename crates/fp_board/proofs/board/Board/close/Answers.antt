use Rattle.std.proofs.Common.{subst, sym, ℕ, ◌<◌, List, Option}
use Rattle.fp_order.specs.declared.entry.Entry.{Entry}
use Rattle.fp_board_rule.specs.declared.plan.Plan.{Plan}
use Rattle.fp_board_rule.specs.Rule.{count_of}
use Rattle.fp_board.specs.Closing.{IsClosedBoard}
use Rattle.fp_board.proofs.Ends.{closes}
use Rattle.fp_board.proofs.board.Board.close.Goals as goal

pub of-requires : goal.of-requires
of-requires c = let board = c.args.self in let seat = c.args.seat in
    let end : IsClosedBoard board.table.shared.key seat.token.me.0.known = closes board.table.shared.key _ _ _ seat.token.me.0 c.close_with-closed.ensures.values.2 (subst (λ (q : ℕ). 0 < q) (sym seat.agrees.same_number) seat.numbered.0)
    (λ k l. c.requires.all k (subst (λ (q : Plan). k < count_of q) board.keyed l)) in
    subst (λ (known : List (Option Entry)). IsClosedBoard board.plan known) seat.agrees.same_known (subst (λ (q : Plan). IsClosedBoard q seat.token.me.0.known) board.keyed end)
