-- What is proved of a group.
use Rattle.std.specs.Prelude.{ℕ, ◌+◌, Bool, true, false, ◌==◌, if◌then◌else◌, List, [], ◌∷◌, ◌++◌, Option, Some, None, codes}
use Rattle.std.specs.List.{slice_get}
use Rattle.fp_term.specs.Names.{numbered}
use Rattle.fp_term.specs.Types.{Typ}
use Rattle.fp_term.specs.Terms.{Tm, bound, app, applied_to, replaced}
use Rattle.fp_term.specs.Typing.{function_type_over}
use Rattle.fp_conclude.specs.Logic.{truth_type, true_constant, equal, implication, for_all}
use Rattle.fp_group.specs.declared.clause.Head.{Head}
use Rattle.fp_group.specs.declared.clause.Clause.{Clause}
use Rattle.fp_group.specs.declared.site.CallSite.{CallSite}
use Rattle.fp_group.specs.declared.group.Group.{Group}
use Rattle.fp_shapes.specs.Binders.{Variables, for_alls}
use Rattle.fp_shapes.specs.Joined.{implications}
use Rattle.fp_spec.specs.Helpers.{names_in, helper}
use Rattle.fp_spec.specs.Heads.{argument_sum, function_at, parameters, in_term}
use Rattle.fp_spec.specs.Relations.{clause_variables}
use Rattle.fp_spec.specs.Defining.{dom_constant, as_term, as_terms}

-- `f p1 .. pn = r`
abbrev pub clause_equation_by : Clause → Option Head → Tm
clause_equation_by clause None = true_constant
clause_equation_by clause (Some head) = equal head.result (applied_to (function_at head) clause.patterns) clause.right

abbrev pub clause_equation : List Head → Clause → Tm
clause_equation heads clause = clause_equation_by clause (slice_get heads clause.function)

-- `f_dom (in(t))`, for a function's arguments
abbrev pub in_domain : List Head → ℕ → List Tm → Tm
in_domain heads i args = app (dom_constant heads) (in_term heads i args)

abbrev pub guarded_equation : List Head → Clause → Tm
guarded_equation heads clause = implication (in_domain heads clause.function clause.patterns) (clause_equation heads clause)

abbrev pub of_clause : (Clause → Tm) → Option Clause → Tm
of_clause f None = true_constant
of_clause f (Some clause) = f clause

-- `f_simp_j` and `f_psimp_j`, for the clause of that number from 0
abbrev pub simp_of : Group → ℕ → Tm
simp_of g j = of_clause (clause_equation g.heads) (slice_get g.clauses j)

abbrev pub psimp_of : Group → ℕ → Tm
psimp_of g j = of_clause (guarded_equation g.heads) (slice_get g.clauses j)

-- `!x. f_dom x`
abbrev pub termination_of : Group → Tm
termination_of g = for_all (argument_sum g.heads) (app (dom_constant g.heads) (bound 0))

-- the predicates of induction: variables of the functions' types into truth values, one for each function
abbrev pub predicate_on : Head → Typ
predicate_on head = function_type_over head.args truth_type

-- under names that occur nowhere in the group
abbrev pub hidden_from : List (List ℕ) → ℕ → List Head → Variables
hidden_from known n [] = []
hidden_from known n (head ∷ heads) = (helper known n, predicate_on head) ∷ hidden_from known (n + 1) heads

abbrev pub hidden_predicates : Group → Variables
hidden_predicates g = hidden_from (names_in g) 5 g.heads

-- `P` of a single function, else `P1 .. Pk`
abbrev pub shown_from : ℕ → List Head → Variables
shown_from n [] = []
shown_from n (head ∷ heads) = (numbered (codes "P") n, predicate_on head) ∷ shown_from (n + 1) heads

abbrev pub shown_predicates : List Head → Variables
shown_predicates (head ∷ []) = (codes "P", predicate_on head) ∷ []
shown_predicates heads = shown_from 1 heads

-- a predicate at the arguments of its function
abbrev pub holds_by : Option (List ℕ × Typ) → List Tm → Tm
holds_by None args = true_constant
holds_by (Some v) args = applied_to (as_term v) args

abbrev pub holds : Variables → ℕ → List Tm → Tm
holds predicates i args = holds_by (slice_get predicates i) args

-- `!newvars. G1 --> .. --> Pj a1 .. an`, for a call site
abbrev pub site_premise : Variables → CallSite → Tm
site_premise predicates site = for_alls site.vars (implications site.guards (holds predicates site.callee site.args))

-- those of the clause of that number
abbrev pub site_premises : Variables → ℕ → List CallSite → List Tm
site_premises predicates number [] = []
site_premises predicates number (site ∷ sites) = if site.clause == number then site_premise predicates site ∷ site_premises predicates number sites else site_premises predicates number sites

-- `f_dom (in(t))` where induction is over the domain, else nothing
abbrev pub domain_premise : Bool → List Head → ℕ → List Tm → List Tm
domain_premise partial heads i args = if partial then in_domain heads i args ∷ [] else []

-- `!vars. f_dom (in(p)) --> H1 --> .. --> Hs --> Pi p1 .. pn`, for the clause of that number
abbrev pub induction_case : Bool → Variables → Group → ℕ → Clause → Tm
induction_case partial predicates g number clause =
    for_alls (clause_variables clause)
    (implications (domain_premise partial g.heads clause.function clause.patterns ++ site_premises predicates number g.sites) (holds predicates clause.function clause.patterns))

abbrev pub cases_from : Bool → Variables → Group → ℕ → List Clause → List Tm
cases_from partial predicates g number [] = []
cases_from partial predicates g number (clause ∷ clauses) = induction_case partial predicates g number clause ∷ cases_from partial predicates g (number + 1) clauses

-- `Case1 --> .. --> Casec --> f_dom (in(x)) --> Pi x1 .. xn`, for the function of that number
abbrev pub induction_for : Bool → Variables → Group → ℕ → Head → Tm
induction_for partial predicates g i head =
    implications (cases_from partial predicates g 0 g.clauses ++ domain_premise partial g.heads i (as_terms (parameters head))) (holds predicates i (as_terms (parameters head)))

-- the second variables in place of the first
abbrev pub renaming : Variables → Variables → List (List ℕ × Typ × Tm)
renaming [] others = []
renaming (v ∷ vs) [] = []
renaming (v ∷ vs) (w ∷ ws) = (v.0, v.1, as_term w) ∷ renaming vs ws

abbrev pub induction_by : Bool → Group → ℕ → Option Head → Tm
induction_by partial g i None = true_constant
induction_by partial g i (Some head) = replaced (renaming (hidden_predicates g) (shown_predicates g.heads)) (induction_for partial (hidden_predicates g) g i head)

-- `fi_pinduct` and `fi_induct`
abbrev pub induction_of : Bool → Group → ℕ → Tm
induction_of partial g i = induction_by partial g i (slice_get g.heads i)

abbrev pub pinduct_of : Group → ℕ → Tm
pinduct_of g i = induction_of true g i

abbrev pub induct_of : Group → ℕ → Tm
induct_of g i = induction_of false g i
