use Rattle.std.proofs.Common.{◌≡◌, ◌++◌, map}
use Rattle.fp_order.specs.Grid.{below, cell_on}
use Rattle.fp_order.specs.Numbers.{number_of}
use Rattle.fp_shown.proofs.table.add_numbers.Given as goal

abbrev pub invariant-loop-row : goal.invariant-loop-row
invariant-loop-row l = l.numbers.items ≡ l.initial.numbers.items ++ map (λ r. number_of l.g (cell_on l.g l.column r)) (below l.row)
