use Rattle.std.proofs.Common.{rules, ◌≡◌, ◌∙◌, sym, length}
use Rattle.fp_order_tests.proofs.AckFacts.{is_grid, twelve}
use Rattle.fp_order_tests.proofs.ack.machine.Goals as goal

pub new-requires-clause-grid : goal.new-requires-clause-grid
new-requires-clause-grid c = rw c.in_ok-g.ensures is_grid

pub new-requires-clause-verdicts : goal.new-requires-clause-verdicts
new-requires-clause-verdicts c =
    let long : length c.in_ok-verdicts.verdicts.items ≡ 12 = search rules in
    rw c.in_ok-g.ensures (long ∙ sym twelve)
