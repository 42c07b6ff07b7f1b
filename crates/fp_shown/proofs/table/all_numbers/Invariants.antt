use Rattle.std.proofs.Common.{◌≡◌, map, length, take}
use Rattle.std.specs.List.{flat_map}
use Rattle.fp_order.specs.Grid.{below, cell_on}
use Rattle.fp_order.specs.Numbers.{number_of}
use Rattle.fp_shown.proofs.table.all_numbers.Given as goal

abbrev pub invariant-loop-column : goal.invariant-loop-column
invariant-loop-column l = l.numbers.items ≡ flat_map (λ column. map (λ r. number_of l.g (cell_on l.g column r)) (below (length l.g.rows))) (take l.column-index l.columns)
