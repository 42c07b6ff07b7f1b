use Rattle.fp_order.proofs.Greedy.{undecided}
use Rattle.fp_shown.specs.Shown.{number_on}
use Rattle.fp_shown.specs.Known.{known_at}
use Rattle.fp_shown.proofs.Forces.{IsForcing}
use Rattle.fp_shown.proofs.search.force.Given as goal

abbrev pub invariant-loop-column : goal.invariant-loop-column
invariant-loop-column l = IsForcing (known_at (number_on l.s.grid) l.known) l.s.columns l.s.rows l.columns.items l.decided.items

abbrev pub decreases-loop-column : goal.decreases-loop-column
decreases-loop-column l = undecided l.decided.items
