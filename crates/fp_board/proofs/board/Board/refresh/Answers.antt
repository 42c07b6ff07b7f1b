use Rattle.std.proofs.Common.{◌≡◌, arith, subst, sym, ℕ}
use Rattle.fp_board_rule.specs.Rule.{count_of}
use Rattle.fp_board.specs.declared.seat.Seat.{Seat}
use Rattle.fp_board.specs.Seats.{view_of}
use Rattle.fp_board_rule.specs.Steps.{IsRefreshed}
use Rattle.fp_board_rule.proofs.Loads.{refreshed_start}
use Rattle.fp_board.proofs.board.Board.refresh.Goals as goal
use Rattle.fp_board.proofs.board.Board.refresh.Goals.{then-self-gt0, else-self-gt0}

pub returns-clause-told : goal.returns-clause-told
returns-clause-told c = let board = c.args.self.now in let old = c.args.seat.now in elim c.if-self-gt0.branch [
  | then-self-gt0 w ↦ subst (λ (s : Seat). IsRefreshed (view_of old) (view_of s) s.words.items (count_of board.plan)) (sym w.seat-is) w.load_all.ensures.told
  | else-self-gt0 w ↦ let none : 0 ≡ count_of board.plan = omega (arith, w.if-self-gt0.false, board.counted) in
      subst (λ (s : Seat). IsRefreshed (view_of old) (view_of s) s.words.items (count_of board.plan)) (sym w.seat-is)
      (subst (λ (n : ℕ). IsRefreshed (view_of old) (view_of old) old.words.items n) none (refreshed_start (view_of old) old.words.items))
]
