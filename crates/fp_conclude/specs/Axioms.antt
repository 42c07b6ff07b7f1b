-- The axioms, and the definitions of the connectives.
use Rattle.std.specs.Prelude.{ℕ, ◌==◌, if◌then◌else◌, List, [], ◌∷◌, codes}
use Rattle.fp_term.specs.Terms.{Tm, bound, free, app, abs}
use Rattle.fp_term.specs.Typing.{function_type}
use Rattle.fp_conclude.specs.declared.axioms.Axiom.{Axiom}
use Rattle.fp_conclude.specs.declared.axioms.Axiom.TheVariants.{Eta, Selection, Infinity}
use Rattle.fp_conclude.specs.declared.connectives.LogicalConstant.{LogicalConstant}
use Rattle.fp_conclude.specs.declared.connectives.LogicalConstant.TheVariants.{Truth, Conjunction, Implication, Universal, Existential, Disjunction, Falsity, Negation}
use Rattle.fp_conclude.specs.Logic.{truth_type, individuals, alpha, beta, predicate_type, binary_type, quantifier_type, equal, select, true_constant, false_constant, connective, conjunction, implication, negation_constant, negation, quantifier, for_all, for_some}

-- `(%x. t x) = t`
abbrev pub eta : Tm
eta = let t = free (codes "t") (function_type alpha beta) in
    equal (function_type alpha beta) (abs alpha (app t (bound 0))) t

-- `P x --> P (select P)`
abbrev pub selection : Tm
selection = let p = free (codes "P") (predicate_type alpha) in
    implication (app p (free (codes "x") alpha)) (app p (select alpha p))

-- `?f. (!x y. f x = f y --> x = y) /\ ~ (!y. ?x. y = f x)`
abbrev pub infinity : Tm
infinity =
    for_some (function_type individuals individuals) (conjunction
    (for_all individuals (for_all individuals (implication
    (equal individuals (app (bound 2) (bound 1)) (app (bound 2) (bound 0))) (equal individuals (bound 1) (bound 0)))))
    (negation (for_all individuals (for_some individuals (equal individuals (bound 1) (app (bound 2) (bound 0)))))))

abbrev pub axioms : List Tm
axioms = eta ∷ selection ∷ infinity ∷ []

-- `T = ((%p. p) = (%p. p))`
abbrev pub true_is : Tm
true_is = equal truth_type true_constant (equal (predicate_type truth_type) (abs truth_type (bound 0)) (abs truth_type (bound 0)))

-- `and = (%p q. (%f. f p q) = (%f. f T T))`
abbrev pub and_is : Tm
and_is = let pair = binary_type truth_type truth_type in
    equal pair (connective (codes "and")) (abs truth_type (abs truth_type (equal (predicate_type pair)
    (abs pair (app (app (bound 0) (bound 2)) (bound 1))) (abs pair (app (app (bound 0) true_constant) true_constant)))))

-- `imp = (%p q. (p /\ q) = p)`
abbrev pub imp_is : Tm
imp_is = equal (binary_type truth_type truth_type) (connective (codes "imp"))
    (abs truth_type (abs truth_type (equal truth_type (conjunction (bound 1) (bound 0)) (bound 1))))

-- `all = (%P. P = (%x. T))`
abbrev pub all_is : Tm
all_is = equal (quantifier_type alpha) (quantifier (codes "all") alpha)
    (abs (predicate_type alpha) (equal (predicate_type alpha) (bound 0) (abs alpha true_constant)))

-- `ex = (%P. !q. (!x. P x --> q) --> q)`
abbrev pub ex_is : Tm
ex_is = equal (quantifier_type alpha) (quantifier (codes "ex") alpha)
    (abs (predicate_type alpha) (for_all truth_type (implication (for_all alpha (implication (app (bound 2) (bound 0)) (bound 1))) (bound 0))))

-- `or = (%p q. !r. (p --> r) --> (q --> r) --> r)`
abbrev pub or_is : Tm
or_is = equal (binary_type truth_type truth_type) (connective (codes "or"))
    (abs truth_type (abs truth_type (for_all truth_type
    (implication (implication (bound 2) (bound 0)) (implication (implication (bound 1) (bound 0)) (bound 0))))))

-- `F = (!p. p)`
abbrev pub false_is : Tm
false_is = equal truth_type false_constant (for_all truth_type (bound 0))

-- `not = (%p. p --> F)`
abbrev pub not_is : Tm
not_is = equal (predicate_type truth_type) negation_constant (abs truth_type (implication (bound 0) false_constant))

abbrev pub connectives : List Tm
connectives = true_is ∷ and_is ∷ imp_is ∷ all_is ∷ ex_is ∷ or_is ∷ false_is ∷ not_is ∷ []

-- what each axiom states, and how each logical constant is defined
abbrev pub axiom_statement : Axiom → Tm
axiom_statement Eta = eta
axiom_statement Selection = selection
axiom_statement Infinity = infinity

abbrev pub definition_statement : LogicalConstant → Tm
definition_statement Truth = true_is
definition_statement Conjunction = and_is
definition_statement Implication = imp_is
definition_statement Universal = all_is
definition_statement Existential = ex_is
definition_statement Disjunction = or_is
definition_statement Falsity = false_is
definition_statement Negation = not_is

-- the axiom, and the connective's definition, of that number from 1
abbrev pub axiom_numbered : ℕ → Tm
axiom_numbered n = if n == 1 then eta else if n == 2 then selection else infinity

abbrev pub connective_numbered : ℕ → Tm
connective_numbered n =
    if n == 1 then true_is else
    (if n == 2 then and_is else
    (if n == 3 then imp_is else
    (if n == 4 then all_is else
    (if n == 5 then ex_is else
    (if n == 6 then or_is else
    (if n == 7 then false_is else not_is))))))
