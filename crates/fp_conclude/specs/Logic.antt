-- The types and the constants of the logic, and formulas made of them.
use Rattle.std.specs.Prelude.{ℕ, List, codes}
use Rattle.fp_term.specs.Names.{truth, equality}
use Rattle.fp_term.specs.Types.{Typ, variable, applied, none}
use Rattle.fp_term.specs.Terms.{Tm, constant, app, abs}
use Rattle.fp_term.specs.Typing.{function_type}

abbrev pub truth_type : Typ
truth_type = applied truth none

abbrev pub individuals : Typ
individuals = applied (codes "ind") none

-- the type variables `'a` and `'b`
abbrev pub alpha : Typ
alpha = variable (codes "a")

abbrev pub beta : Typ
beta = variable (codes "b")

abbrev pub predicate_type : Typ → Typ
predicate_type s = function_type s truth_type

abbrev pub binary_type : Typ → Typ → Typ
binary_type s result = function_type s (function_type s result)

abbrev pub equality_type : Typ → Typ
equality_type s = binary_type s truth_type

abbrev pub select_type : Typ → Typ
select_type s = function_type (predicate_type s) s

abbrev pub quantifier_type : Typ → Typ
quantifier_type s = predicate_type (predicate_type s)

-- `left = right` at a type
abbrev pub equal : Typ → Tm → Tm → Tm
equal s left right = app (app (constant equality (equality_type s)) left) right

-- `select P`, for a predicate on a type
abbrev pub select : Typ → Tm → Tm
select s p = app (constant (codes "select") (select_type s)) p

abbrev pub true_constant : Tm
true_constant = constant (codes "T") truth_type

abbrev pub false_constant : Tm
false_constant = constant (codes "F") truth_type

abbrev pub connective : List ℕ → Tm
connective name = constant name (binary_type truth_type truth_type)

abbrev pub conjunction : Tm → Tm → Tm
conjunction p q = app (app (connective (codes "and")) p) q

abbrev pub implication : Tm → Tm → Tm
implication p q = app (app (connective (codes "imp")) p) q

abbrev pub negation_constant : Tm
negation_constant = constant (codes "not") (predicate_type truth_type)

abbrev pub negation : Tm → Tm
negation p = app negation_constant p

abbrev pub quantifier : List ℕ → Typ → Tm
quantifier name s = constant name (quantifier_type s)

-- `!x. body` and `?x. body`, where the body has 0 for `x`
abbrev pub for_all : Typ → Tm → Tm
for_all s body = app (quantifier (codes "all") s) (abs s body)

abbrev pub for_some : Typ → Tm → Tm
for_some s body = app (quantifier (codes "ex") s) (abs s body)
