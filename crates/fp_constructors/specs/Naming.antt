-- Type variables in order of first occurrence.
use Rattle.std.specs.Prelude.{ℕ, ◌+◌, if◌then◌else◌, List, [], ◌∷◌, ◌++◌}
use Rattle.fp_term.specs.Types.{Typ, variable}
use Rattle.fp_term.specs.Terms.{Tm, retyped_term}
use Rattle.fp_term.specs.Variables.{is_among, type_names_in}
use Rattle.fp_unify.specs.Candidates.{candidate}

-- the names in order of their first occurrence, after the known ones
abbrev pub distinct_after : List (List ℕ) → List (List ℕ) → List (List ℕ)
distinct_after known [] = known
distinct_after known (name ∷ names) = distinct_after (if is_among known name then known else known ++ name ∷ []) names

-- a type variable for each of the names, from the one of that number on
abbrev pub lettered : ℕ → List (List ℕ) → List (List ℕ × Typ)
lettered k [] = []
lettered k (a ∷ names) = (a, variable (candidate k)) ∷ lettered (k + 1) names

-- the term with its type variables named in order of first occurrence
abbrev pub renamed : Tm → Tm
renamed t = retyped_term (lettered 0 (distinct_after [] (type_names_in t))) t
