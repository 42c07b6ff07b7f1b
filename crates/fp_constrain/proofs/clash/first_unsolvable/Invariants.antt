use Rattle.std.proofs.Common.{◌<◌, ◌-◌}
use Rattle.fp_constrain.specs.Clash.{FirstUnsolvable}
use Rattle.fp_constrain.proofs.clash.first_unsolvable.Given as goal

abbrev pub invariant-loop-high : goal.invariant-loop-high
invariant-loop-high l = record { order : l.low < l.high; at : FirstUnsolvable l.facts l.low l.high }

abbrev pub decreases-loop-high : goal.decreases-loop-high
decreases-loop-high l = l.high - l.low
