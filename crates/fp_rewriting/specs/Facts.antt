-- The rules that a guard gives, and the names of the guards' variables.
use Rattle.std.specs.Prelude.{ℕ, if◌then◌else◌, List, [], ◌∷◌, ◌++◌, codes}
use Rattle.fp_term.specs.Terms.{Tm, bound, free, constant, app, abs, term_eq}
use Rattle.fp_term.specs.Variables.{is_among}
use Rattle.fp_conclude.specs.Logic.{true_constant, false_constant, connective, negation_constant}

-- the one rule of a guard that is no conjunction and no negation
abbrev pub fact_of : Tm → List (Tm × Tm)
fact_of t = if term_eq t true_constant then [] else (t, true_constant) ∷ []

-- the rules that a simplified guard gives
abbrev pub facts_of : Tm → List (Tm × Tm)
facts_of (app (app c p) q) = if term_eq c (connective (codes "and")) then facts_of p ++ facts_of q else fact_of (app (app c p) q)
facts_of (app (bound n) p) = fact_of (app (bound n) p)
facts_of (app (free a s) p) = fact_of (app (free a s) p)
facts_of (app (constant a s) p) = if term_eq (constant a s) negation_constant then (p, false_constant) ∷ [] else fact_of (app (constant a s) p)
facts_of (app (abs s x) p) = fact_of (app (abs s x) p)
facts_of (bound n) = fact_of (bound n)
facts_of (free a s) = fact_of (free a s)
facts_of (constant a s) = fact_of (constant a s)
facts_of (abs s x) = fact_of (abs s x)

abbrev pub with_name : List (List ℕ) → List ℕ → List (List ℕ)
with_name names name = if is_among names name then names else names ++ name ∷ []

-- the names, and each name of a free variable of the term that isn't there
abbrev pub with_names : List (List ℕ) → Tm → List (List ℕ)
with_names names (bound n) = names
with_names names (free a s) = with_name names a
with_names names (constant a s) = names
with_names names (app f x) = with_names (with_names names f) x
with_names names (abs s x) = with_names names x

abbrev pub names_of : List (List ℕ) → List Tm → List (List ℕ)
names_of names [] = names
names_of names (t ∷ ts) = names_of (with_names names t) ts
