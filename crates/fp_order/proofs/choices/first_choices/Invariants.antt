use Rattle.std.proofs.Common.{◌≡◌, ◌-◌, length, drop, take}
use Rattle.fp_order.specs.Grid.{choices}
use Rattle.fp_order.proofs.choices.first_choices.Given as goal

abbrev pub invariant-loop-i : goal.invariant-loop-i
invariant-loop-i l = l.all.items ≡ take l.limit (choices (drop (length l.counts - l.i) l.counts))
