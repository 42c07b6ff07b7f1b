-- The definitions of a group.
use Rattle.std.specs.Prelude.{ℕ, ◌+◌, List, [], ◌∷◌, ◌++◌, map, codes}
use Rattle.fp_term.specs.Types.{Typ}
use Rattle.fp_term.specs.Terms.{Tm, free, constant, app}
use Rattle.fp_term.specs.Typing.{function_type}
use Rattle.fp_conclude.specs.Logic.{predicate_type, select, implication, conjunction}
use Rattle.fp_group.specs.declared.clause.Head.{Head}
use Rattle.fp_group.specs.declared.group.Group.{Group}
use Rattle.fp_spec.specs.declared.letters.Letters.{Letters}
use Rattle.fp_shapes.specs.Binders.{Variables, lambdas, for_somes, for_alls}
use Rattle.fp_spec.specs.Helpers.{names_in, helper, AreUnused, AreDifferent}
use Rattle.fp_spec.specs.Heads.{argument_sum, result_sum, family_type, parameters, in_term, result_out}
use Rattle.fp_spec.specs.Relations.{some_clause, some_row}

abbrev pub at_two : Tm → Tm → Tm → Tm
at_two c x y = app (app c x) y

abbrev pub at_three : Tm → Tm → Tm → Tm → Tm
at_three c x y z = app (app (app c x) y) z

-- relations of the two types, and those of functions from the arguments to the results with two more
abbrev pub relation_type : Typ → Typ → Typ
relation_type s t = function_type s (predicate_type t)

abbrev pub family_relation : List Head → Typ → Typ
family_relation heads t = function_type (family_type heads) (relation_type (argument_sum heads) t)

-- the name of the first function
abbrev pub stem_of : List Head → List ℕ
stem_of [] = []
stem_of (head ∷ heads) = head.name

abbrev pub clauses_name : List Head → List ℕ
clauses_name heads = stem_of heads ++ codes "_clauses"

abbrev pub calls_name : List Head → List ℕ
calls_name heads = stem_of heads ++ codes "_calls"

abbrev pub graph_name : List Head → List ℕ
graph_name heads = stem_of heads ++ codes "_graph"

abbrev pub sum_name : List Head → List ℕ
sum_name heads = stem_of heads ++ codes "_sum"

abbrev pub rel_name : List Head → List ℕ
rel_name heads = stem_of heads ++ codes "_rel"

abbrev pub dom_name : List Head → List ℕ
dom_name heads = stem_of heads ++ codes "_dom"

-- the constants
abbrev pub clauses_constant : List Head → Tm
clauses_constant heads = constant (clauses_name heads) (family_relation heads (result_sum heads))

abbrev pub calls_constant : List Head → Tm
calls_constant heads = constant (calls_name heads) (family_relation heads (argument_sum heads))

abbrev pub graph_constant : List Head → Tm
graph_constant heads = constant (graph_name heads) (relation_type (argument_sum heads) (result_sum heads))

abbrev pub sum_constant : List Head → Tm
sum_constant heads = constant (sum_name heads) (family_type heads)

abbrev pub rel_constant : List Head → Tm
rel_constant heads = constant (rel_name heads) (relation_type (argument_sum heads) (argument_sum heads))

abbrev pub dom_constant : List Head → Tm
dom_constant heads = constant (dom_name heads) (predicate_type (argument_sum heads))

-- `lfp` for relations of that type, and `acc` for relations on a type
abbrev pub lfp_constant : Typ → Tm
lfp_constant s = constant (codes "lfp") (function_type (function_type s s) s)

abbrev pub acc_constant : Typ → Tm
acc_constant s = constant (codes "acc") (function_type (relation_type s s) (predicate_type s))

-- the variables with which the definitions are written; none of their names occurs in the group
abbrev pub letters_by : List (List ℕ) → List Head → Letters
letters_by known heads = record {
  h = (helper known 0, family_type heads);
  x = (helper known 1, argument_sum heads);
  y = (helper known 2, result_sum heads);
  z = (helper known 3, argument_sum heads);
  relation = (helper known 4, relation_type (argument_sum heads) (result_sum heads));
}

abbrev pub letter_names : Letters → List (List ℕ)
letter_names l = l.h.0 ∷ l.x.0 ∷ l.y.0 ∷ l.z.0 ∷ l.relation.0 ∷ []

-- the letters' names are none of the known ones, and different
pub record AreNew (known : List (List ℕ)) (l : Letters) : Type 0 where
  pub unused : AreUnused known (letter_names l)
  pub different : AreDifferent (letter_names l)

abbrev pub letters_of : Group → Letters
letters_of g = letters_by (names_in g) g.heads

abbrev pub as_term : List ℕ × Typ → Tm
as_term v = free v.0 v.1

abbrev pub as_terms : Variables → List Tm
as_terms vs = map as_term vs

-- `%h x y.` what some clause says
abbrev pub clauses_body : Group → Letters → Tm
clauses_body g l = lambdas (l.h ∷ l.x ∷ l.y ∷ []) (some_clause g.heads g.clauses (as_term l.h) (as_term l.x) (as_term l.y))

-- `%h z x.` what some row says
abbrev pub calls_body : Group → Letters → Tm
calls_body g l = lambdas (l.h ∷ l.z ∷ l.x ∷ []) (some_row g.heads g.clauses g.sites (as_term l.h) (as_term l.z) (as_term l.x))

-- `(!z. f_calls h z x --> G z (h z)) /\ f_clauses h x y`
abbrev pub step_fact : List Head → Letters → Tm
step_fact heads l =
    conjunction
    (for_alls (l.z ∷ [])
    (implication (at_three (calls_constant heads) (as_term l.h) (as_term l.z) (as_term l.x)) (at_two (as_term l.relation) (as_term l.z) (app (as_term l.h) (as_term l.z)))))
    (at_three (clauses_constant heads) (as_term l.h) (as_term l.x) (as_term l.y))

-- `lfp (%G x y. ?h. (!z. f_calls h z x --> G z (h z)) /\ f_clauses h x y)`
abbrev pub graph_body : List Head → Letters → Tm
graph_body heads l = app (lfp_constant l.relation.1) (lambdas (l.relation ∷ l.x ∷ l.y ∷ []) (for_somes (l.h ∷ []) (step_fact heads l)))

-- `%x. @y. f_graph x y`
abbrev pub sum_body : List Head → Letters → Tm
sum_body heads l = lambdas (l.x ∷ []) (select l.y.1 (lambdas (l.y ∷ []) (at_two (graph_constant heads) (as_term l.x) (as_term l.y))))

-- `%z x. f_calls f_sum z x`
abbrev pub rel_body : List Head → Letters → Tm
rel_body heads l = lambdas (l.z ∷ l.x ∷ []) (at_three (calls_constant heads) (sum_constant heads) (as_term l.z) (as_term l.x))

-- `acc f_rel`
abbrev pub dom_body : List Head → Tm
dom_body heads = app (acc_constant (argument_sum heads)) (rel_constant heads)

-- `%x1 .. xn. out(f_sum (in(x)))`, for the function of that number
abbrev pub function_body : List Head → ℕ → Head → Tm
function_body heads i head = lambdas (parameters head) (result_out heads i (app (sum_constant heads) (in_term heads i (as_terms (parameters head)))))

-- the functions and their bodies, from the number on
abbrev pub functions_from : List Head → ℕ → List Head → List (List ℕ × Tm)
functions_from heads i [] = []
functions_from heads i (head ∷ rest) = (head.name, function_body heads i head) ∷ functions_from heads (i + 1) rest

abbrev pub relations_by : Group → Letters → List (List ℕ × Tm)
relations_by g l =
    (clauses_name g.heads, clauses_body g l) ∷ (calls_name g.heads, calls_body g l) ∷ (graph_name g.heads, graph_body g.heads l) ∷ (sum_name g.heads, sum_body g.heads l)
    ∷ (rel_name g.heads, rel_body g.heads l) ∷ (dom_name g.heads, dom_body g.heads) ∷ []

-- the constants in the order in which they are defined, with their bodies
abbrev pub defining_terms_of : Group → List (List ℕ × Tm)
defining_terms_of g = relations_by g (letters_of g) ++ functions_from g.heads 0 g.heads
