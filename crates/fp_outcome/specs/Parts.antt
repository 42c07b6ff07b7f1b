-- The parts of an order that was found, as measures.
use Rattle.std.specs.Prelude.{ℕ, zero, suc, List, [], ◌∷◌, ◌++◌, map, length, if◌then◌else◌, Option, Some, None}
use Rattle.std.specs.List.{slice_get}
use Rattle.fp_term.specs.Terms.{Tm}
use Rattle.fp_level.specs.Ranks.{has}
use Rattle.fp_level.specs.declared.rank.Rank.{Rank}
use Rattle.fp_level.specs.declared.rank.Rank.TheVariants as rank
use Rattle.fp_outcome.specs.declared.item.OrderPart.{OrderPart}
use Rattle.fp_outcome.specs.declared.item.OrderPart.TheVariants as part

abbrev pub in_list : Option Tm → List Tm
in_list None = []
in_list (Some t) = t ∷ []

-- the measure of that number, where there is one
abbrev pub numbered_measure : List Tm → ℕ → List Tm
numbered_measure own number = in_list (slice_get own number)

-- the measures of these numbers, one for each function
abbrev pub column_of : List (List Tm) → List ℕ → List Tm
column_of [] numbers = []
column_of (own ∷ others) [] = []
column_of (own ∷ others) (number ∷ rest) = numbered_measure own number ++ column_of others rest

-- the measures with numbers below `n` that are in the set
abbrev pub set_below : List Tm → ℕ → ℕ → List Tm
set_below own set zero = []
set_below own set (suc n) = set_below own set n ++ (if has set n then numbered_measure own n else [])

abbrev pub set_of : List Tm → ℕ → List Tm
set_of own set = set_below own set (length own)

-- the measures of these sets, one set for each function
abbrev pub sets_of : List (List Tm) → List ℕ → List (List Tm)
sets_of [] sets = []
sets_of (own ∷ others) [] = []
sets_of (own ∷ others) (set ∷ rest) = set_of own set ∷ sets_of others rest

abbrev pub part_of : List (List Tm) → Rank → OrderPart
part_of measures (rank.Column numbers) = part.Column (column_of measures numbers)
part_of measures (rank.Max sets) = part.Max (sets_of measures sets)
part_of measures (rank.Min sets) = part.Min (sets_of measures sets)

abbrev pub parts_of : List (List Tm) → List Rank → List OrderPart
parts_of measures ranks = map (part_of measures) ranks
