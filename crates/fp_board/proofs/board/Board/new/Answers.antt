use Rattle.std.proofs.Common.{arith, ap, ◌∙◌, length, ℕ}
use Rattle.fp_board_rule.specs.Words.{word_at}
use Rattle.fp_board_rule.proofs.Seats.{starts, get_or-replicate, length-replicate'}
use Rattle.fp_board.proofs.board.Board.new.Goals as goal

pub of_words-requires : goal.of_words-requires
of_words-requires c = let is = c.deref.ensures.value ∙ c.in_ok-zeros.ensures in
    starts _ _ (record { right = c.requires.grid; full = c.requires.cells }) (omega (arith, ap length is, length-replicate' {A = ℕ} c.max.result 0)) (λ k. ap (λ l. word_at l k) is ∙ get_or-replicate c.max.result k 0)
