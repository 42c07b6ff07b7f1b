use Rattle.std.specs.List.{flat_map}
use Rattle.fp_order.specs.Grid.{below, row_cells}
use Rattle.fp_order.specs.Numbers.{Gains}
use Rattle.fp_order.proofs.numbering.add_rows.Given as goal

abbrev pub invariant-loop-row : goal.invariant-loop-row
invariant-loop-row l = Gains l.g l.initial.numbered l.numbered (flat_map (row_cells l.g) (below l.row))
