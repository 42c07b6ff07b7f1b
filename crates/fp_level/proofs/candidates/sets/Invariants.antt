use Rattle.std.proofs.Common.{◌≡◌, ◌+◌, map, take}
use Rattle.fp_level.proofs.candidates.sets.Given as goal

abbrev pub invariant-loop-number : goal.invariant-loop-number
invariant-loop-number l = l.sets.items ≡ map (λ n. n + 1) (take l.number-index l.choice)
