use Rattle.std.proofs.Common.{◌≡◌, ◌++◌, map, take}
use Rattle.fp_level.specs.Ranks.{candidate}
use Rattle.fp_level.proofs.result.add_chosen.Given as goal

abbrev pub invariant-loop-c : goal.invariant-loop-c
invariant-loop-c l = l.chosen ≡ l.initial.chosen ++ map (candidate l.ranks) (take l.c-index l.order)
