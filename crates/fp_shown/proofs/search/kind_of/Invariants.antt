use Rattle.fp_shown.specs.Shown.{number_on}
use Rattle.fp_shown.specs.Known.{known_at}
use Rattle.fp_shown.proofs.ColumnKind.{KindBelow}
use Rattle.fp_shown.proofs.search.kind_of.Given as goal

abbrev pub invariant-loop-row : goal.invariant-loop-row
invariant-loop-row l = KindBelow (known_at (number_on l.s.grid) l.known) l.decided l.column l.row l.hole l.less
