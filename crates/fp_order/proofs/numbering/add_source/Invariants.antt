use Rattle.std.proofs.Common.{map}
use Rattle.fp_order.specs.Grid.{below}
use Rattle.fp_order.specs.Numbers.{Gains}
use Rattle.fp_order.proofs.numbering.add_source.Given as goal

abbrev pub invariant-loop-target : goal.invariant-loop-target
invariant-loop-target l = Gains l.g l.initial.numbered l.numbered (map (λ t. record { row = l.row; source = l.source; target = t }) (below l.target))
