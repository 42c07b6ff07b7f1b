use Rattle.std.proofs.Common.{rules, ◌≡◌, ◌∙◌, sym, length}
use Rattle.fp_board_tests.proofs.AckFacts.{is_grid, twelve}
use Rattle.fp_board_tests.proofs.ack.new_board.Goals as goal

pub new-requires-3-clause-grid : goal.new-requires-3-clause-grid
new-requires-3-clause-grid c = rw c.in_ok-grid.ensures is_grid

pub new-requires-3-clause-cells : goal.new-requires-3-clause-cells
new-requires-3-clause-cells c =
    let long : length c.in_ok-goals.goals.items ≡ 12 = search rules in
    rw c.in_ok-grid.ensures (long ∙ sym twelve)
