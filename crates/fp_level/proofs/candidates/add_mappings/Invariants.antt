use Rattle.std.proofs.Common.{◌≡◌, ◌++◌, ◌+◌, map, take}
use Rattle.fp_level.specs.Ranks.{rank_of}
use Rattle.fp_level.proofs.candidates.add_mappings.Given as goal

abbrev pub invariant-loop-choice : goal.invariant-loop-choice
invariant-loop-choice l = l.ranks.items ≡ l.initial.ranks.items ++ map (λ choice. rank_of l.extremum (map (λ n. n + 1) choice)) (take l.choice-index l.choices)
