use Rattle.std.proofs.Common.{take}
use Rattle.std.specs.List.{flat_map}
use Rattle.fp_order.specs.Grid.{column_cells}
use Rattle.fp_order.specs.Numbers.{Gains}
use Rattle.fp_order.proofs.numbering.add_columns.Given as goal

abbrev pub invariant-loop-column : goal.invariant-loop-column
invariant-loop-column l = Gains l.g l.initial.numbered l.numbered (flat_map (column_cells l.g) (take l.column-index l.columns))
