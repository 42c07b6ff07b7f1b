use Rattle.std.proofs.Common.{rules, ◌≡◌, ◌∙◌, sym, length}
use Rattle.fp_order_tests.proofs.AckFacts.{is_grid, twelve}
use Rattle.fp_order_tests.proofs.ack.found_ack.Goals as goal

pub search-requires-clause-grid : goal.search-requires-clause-grid
search-requires-clause-grid c = rw c.in_ok-g.ensures is_grid

pub search-requires-clause-entries : goal.search-requires-clause-entries
search-requires-clause-entries c =
    let long : length c.as_slice.result.now ≡ 12 = search rules in
    rw c.in_ok-g.ensures (long ∙ sym twelve)
