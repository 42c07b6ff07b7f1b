use Rattle.std.specs.List.{flat_map}
use Rattle.fp_order.specs.Grid.{below, source_cells}
use Rattle.fp_order.specs.Numbers.{Gains}
use Rattle.fp_order.proofs.numbering.add_row.Given as goal

abbrev pub invariant-loop-source : goal.invariant-loop-source
invariant-loop-source l = Gains l.g l.initial.numbered l.numbered (flat_map (source_cells l.g l.row) (below l.source))
