use Rattle.std.proofs.Common.{map}
use Rattle.fp_order.specs.Grid.{below, cell_on}
use Rattle.fp_order.specs.Numbers.{Gains}
use Rattle.fp_order.proofs.numbering.add_column.Given as goal

abbrev pub invariant-loop-row : goal.invariant-loop-row
invariant-loop-row l = Gains l.g l.initial.numbered l.numbered (map (cell_on l.g l.column) (below l.row))
