-- What is derived for variables, of which instances are taken.
use Rattle.std.specs.Prelude.{Bool, if◌then◌else◌, codes}
use Rattle.fp_term.specs.Terms.{Tm, bound, free, abs}
use Rattle.fp_conclude.specs.Logic.{truth_type, predicate_type, quantifier_type, equal, true_constant, implication, quantifier}
use Rattle.fp_forms.specs.Schemas.{q_variable}
use Rattle.fp_disjunction.specs.Forms.{disjunction}

-- `P = (%x. T)`, for a predicate on formulas
abbrev pub always_true : Tm → Tm
always_true p = equal (predicate_type truth_type) p (abs truth_type true_constant)

-- `all = (%P. P = (%x. T))`, for formulas
abbrev pub universal_is : Tm
universal_is = equal (quantifier_type truth_type) (quantifier (codes "all") truth_type) (abs (predicate_type truth_type) (always_true (bound 0)))

abbrev pub r_variable : Tm
r_variable = free (codes "r") truth_type

-- `(p --> r) --> (q --> r) --> r`
abbrev pub each_way : Tm → Tm → Tm → Tm
each_way p q r = implication (implication p r) (implication (implication q r) r)

-- `%r. (p --> r) --> (q --> r) --> r`
abbrev pub all_ways : Tm → Tm → Tm
all_ways p q = abs truth_type (each_way p q (bound 0))

-- `T \/ q`, or `q \/ T`
abbrev pub joined_truth : Bool → Tm
joined_truth first = if first then disjunction true_constant q_variable else disjunction q_variable true_constant
