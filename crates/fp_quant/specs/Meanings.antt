-- What quantified formulas say, and what rules give on premises of a known form.
use Rattle.std.specs.Prelude.{◌≡◌, ℕ, List, [], ◌∷◌, codes}
use Rattle.fp_term.specs.Types.{Typ}
use Rattle.fp_term.specs.Terms.{Tm, bound, app, abs}
use Rattle.fp_term.specs.Typing.{function_type}
use Rattle.fp_conclude.specs.Logic.{predicate_type, quantifier_type, equal, true_constant, quantifier}

-- types for the type variables `'a` and `'b`
abbrev pub for_alpha : Typ → List (List ℕ × Typ)
for_alpha s = (codes "a", s) ∷ []

abbrev pub for_both : Typ → Typ → List (List ℕ × Typ)
for_both s r = (codes "a", s) ∷ (codes "b", r) ∷ []

-- `P = (%x. T)`, for a predicate on the type
abbrev pub always : Typ → Tm → Tm
always s p = equal (predicate_type s) p (abs s true_constant)

-- `all = (%P. P = (%x. T))`, over the type
abbrev pub universal_at : Typ → Tm
universal_at s = equal (quantifier_type s) (quantifier (codes "all") s) (abs (predicate_type s) (always s (bound 0)))

-- `%x. f x`
abbrev pub expansion : Typ → Tm → Tm
expansion from f = abs from (app f (bound 0))

-- `(%x. f x) = f`, for a function from the one type to the other
abbrev pub eta_at : Typ → Typ → Tm → Tm
eta_at from to f = equal (function_type from to) (expansion from f) f
