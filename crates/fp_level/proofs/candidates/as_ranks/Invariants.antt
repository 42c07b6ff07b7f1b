use Rattle.std.proofs.Common.{◌≡◌, map, take}
use Rattle.fp_level.specs.declared.rank.Rank.TheVariants.{Column}
use Rattle.fp_level.proofs.candidates.as_ranks.Given as goal

abbrev pub invariant-loop-column : goal.invariant-loop-column
invariant-loop-column l = l.ranks.items ≡ map (λ c. Column c) (take l.column-index l.columns)
