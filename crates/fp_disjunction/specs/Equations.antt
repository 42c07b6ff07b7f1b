-- Equations on the way to a disjunction and from one.
use Rattle.std.specs.Prelude.{codes}
use Rattle.fp_term.specs.Terms.{Tm, app, abs, closed}
use Rattle.fp_conclude.specs.Logic.{truth_type, predicate_type, binary_type, equal, true_constant, connective, quantifier}
use Rattle.fp_disjunction.specs.Forms.{disjunction}
use Rattle.fp_disjunction.specs.Schemas.{always_true, all_ways}

-- `(p \/ q) = (!r. (p --> r) --> (q --> r) --> r)`
abbrev pub disjunction_is_for_all : Tm → Tm → Tm
disjunction_is_for_all p q = equal truth_type (disjunction p q) (app (quantifier (codes "all") truth_type) (all_ways p q))

-- `(p \/ q) = ((%r. (p --> r) --> (q --> r) --> r) = (%x. T))`
abbrev pub disjunction_is : Tm → Tm → Tm
disjunction_is p q = equal truth_type (disjunction p q) (always_true (all_ways p q))

-- `(%r. p) = (%r. T)`, for the variable `r`
abbrev pub true_for_all_r : Tm → Tm
true_for_all_r p = always_true (abs truth_type (closed 0 (codes "r") truth_type p))

-- `or = or`, and `or t = or t`
abbrev pub or_is_itself : Tm
or_is_itself = equal (binary_type truth_type truth_type) (connective (codes "or")) (connective (codes "or"))

abbrev pub or_of : Tm → Tm
or_of t = app (connective (codes "or")) t

abbrev pub or_of_is_itself : Tm → Tm
or_of_is_itself t = equal (predicate_type truth_type) (or_of t) (or_of t)

-- `or T = or p`
abbrev pub or_of_truth_is : Tm → Tm
or_of_truth_is p = equal (predicate_type truth_type) (or_of true_constant) (or_of p)

-- `(T \/ t) = (p \/ t)`, and `(t \/ T) = (t \/ p)`
abbrev pub truth_first_is : Tm → Tm → Tm
truth_first_is p t = equal truth_type (disjunction true_constant t) (disjunction p t)

abbrev pub truth_second_is : Tm → Tm → Tm
truth_second_is t p = equal truth_type (disjunction t true_constant) (disjunction t p)
