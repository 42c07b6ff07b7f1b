-- The names that are printed for bound variables.
use Rattle.std.specs.Prelude.{ℕ, zero, suc, ◌+◌, ◌/◌, ◌%◌, if◌then◌else◌, ◌==◌, List, [], ◌∷◌, ◌++◌}
use Rattle.std.specs.Fmt.{decimal}
use Rattle.fp_term.specs.Terms.{Tm, bound, free, constant, app, abs}
use Rattle.fp_term.specs.Variables.{is_among}

-- the names from which those of bound variables are taken: `a`, .., `z`, `a1`, .., `z1`, `a2` and so on
abbrev pub candidate : ℕ → List ℕ
candidate k = (97 + k % 26) ∷ (if k / 26 == 0 then [] else decimal (k / 26))

-- a name beside those that are there, each of them once
abbrev pub with_name : List (List ℕ) → List ℕ → List (List ℕ)
with_name used name = if is_among used name then used else used ++ name ∷ []

-- the names of the free variables and the constants of a term, beside those that are there
abbrev pub with_names : List (List ℕ) → Tm → List (List ℕ)
with_names used (bound n) = used
with_names used (free a s) = with_name used a
with_names used (constant a s) = with_name used a
with_names used (app f x) = with_names (with_names used f) x
with_names used (abs s x) = with_names used x

abbrev pub with_names_of_all : List (List ℕ) → List Tm → List (List ℕ)
with_names_of_all used [] = used
with_names_of_all used (t ∷ ts) = with_names_of_all (with_names used t) ts

-- the first place from `k` on whose candidate isn't used, where one step for each used name is enough, since no two candidates are equal
abbrev pub next_place : List (List ℕ) → List (List ℕ) → ℕ → ℕ
next_place used [] k = k
next_place used (step ∷ steps) k = if is_among used (candidate k) then next_place used steps (k + 1) else k

-- the place of the d-th candidate, from 0, that isn't used
abbrev pub place_of : List (List ℕ) → ℕ → ℕ
place_of used zero = next_place used used 0
place_of used (suc d) = next_place used used (place_of used d + 1)

-- the name of a binder inside `d` others
abbrev pub binder_name : List (List ℕ) → ℕ → List ℕ
binder_name used d = candidate (place_of used d)

-- the names of so many binders, each inside the one before
abbrev pub binder_names : List (List ℕ) → ℕ → List (List ℕ)
binder_names used zero = []
binder_names used (suc d) = binder_names used d ++ binder_name used d ∷ []
