-- What is derived for the variables `p` and `q`, of which instances are taken.
use Rattle.std.specs.Prelude.{ℕ, Bool, if◌then◌else◌, List, [], ◌∷◌, codes}
use Rattle.fp_term.specs.Types.{Typ}
use Rattle.fp_term.specs.Terms.{Tm, bound, free, app, abs}
use Rattle.fp_conclude.specs.Logic.{truth_type, predicate_type, binary_type, equal, true_constant, conjunction}

abbrev pub p_variable : Tm
p_variable = free (codes "p") truth_type

abbrev pub q_variable : Tm
q_variable = free (codes "q") truth_type

-- formulas in place of the two variables
abbrev pub in_place : Tm → Tm → List (List ℕ × Typ × Tm)
in_place l r = (codes "p", truth_type, l) ∷ (codes "q", truth_type, r) ∷ []

-- `%f. f l r`
abbrev pub applying : Tm → Tm → Tm
applying l r = abs (binary_type truth_type truth_type) (app (app (bound 0) l) r)

-- `(%f. f l r) = (%f. f T T)`
abbrev pub both_true : Tm → Tm → Tm
both_true l r = equal (predicate_type (binary_type truth_type truth_type)) (applying l r) (applying true_constant true_constant)

-- `%p. p`
abbrev pub identity : Tm
identity = abs truth_type (bound 0)

-- `(%p. p) = (%p. p)`
abbrev pub true_meaning : Tm
true_meaning = equal (predicate_type truth_type) identity identity

-- `T = p`
abbrev pub held : Tm → Tm
held p = equal truth_type true_constant p

-- `%x y. x` and `%x y. y`
abbrev pub chooser : Bool → Tm
chooser first = abs truth_type (abs truth_type (bound (if first then 1 else 0)))

abbrev pub chosen : Bool → Tm → Tm → Tm
chosen first l r = if first then l else r

-- `(%f. f l r) (%x y. x)`, or with `%x y. y`
abbrev pub choice : Bool → Tm → Tm → Tm
choice first l r = app (applying l r) (chooser first)

-- a formula, and a connective, are themselves
abbrev pub itself : Tm → Tm
itself p = equal truth_type p p

-- `(l /\ r) = l`
abbrev pub implied : Tm → Tm → Tm
implied l r = equal truth_type (conjunction l r) l

-- `c p = (%y. x)`, for a chooser `c`
abbrev pub chosen_from : Bool → Tm
chosen_from first = equal (predicate_type truth_type) (app (chooser first) p_variable) (abs truth_type (if first then p_variable else bound 0))
