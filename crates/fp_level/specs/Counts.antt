-- What a search of mappings looks at.
use Rattle.std.specs.Prelude.{◌+◌, ◌-◌, ◌^◌, ◌++◌, nat_lt, ℕ, List, map, if◌then◌else◌}
use Rattle.fp_level.specs.declared.rank.Rank.{Rank}
use Rattle.fp_level.specs.declared.rank.Extremum.TheVariants.{Greatest, Least}
use Rattle.fp_level.specs.Ranks.{rank_of}

-- how many nonempty sets there are of so many measures, or 4,095 where there are more
abbrev pub set_count : ℕ → ℕ
set_count measures = if nat_lt measures 12 then 2 ^ measures - 1 else 4095

-- the mappings of choices that count from 0, by the greatest value and then by the least
abbrev pub over_choices : List (List ℕ) → List Rank
over_choices chosen =
    map (λ choice. rank_of Greatest (map (λ n. n + 1) choice)) chosen ++ map (λ choice. rank_of Least (map (λ n. n + 1) choice)) chosen
