use Rattle.std.proofs.Common.{◌<◌, ℕ}
use Rattle.fp_order.specs.Greedy.{IsLeft}
use Rattle.fp_shown.specs.Shown.{number_on}
use Rattle.fp_shown.specs.Known.{known_at, IsSkipped}
use Rattle.fp_shown.proofs.search.sure_column.Given as goal

abbrev pub invariant-loop-column : goal.invariant-loop-column
invariant-loop-column l = (d : ℕ) → d < l.column → IsSkipped (known_at (number_on l.s.grid) l.known) (IsLeft l.decided) d
