-- What a clause says of an argument and its value, and what a row says of an argument and that of a call.
use Rattle.std.specs.Prelude.{List, [], ◌∷◌, ◌++◌, map, Option, Some, None}
use Rattle.std.specs.List.{slice_get}
use Rattle.fp_term.specs.Terms.{Tm}
use Rattle.fp_term.specs.Variables.{with_variables}
use Rattle.fp_conclude.specs.Logic.{false_constant, equal, conjunction}
use Rattle.fp_group.specs.declared.clause.Head.{Head}
use Rattle.fp_group.specs.declared.clause.Clause.{Clause}
use Rattle.fp_group.specs.declared.site.CallSite.{CallSite}
use Rattle.fp_shapes.specs.Binders.{Variables, for_somes}
use Rattle.fp_shapes.specs.Joined.{conjunctions, disjunctions}
use Rattle.fp_spec.specs.Heads.{argument_sum, result_sum, in_term, result_in}
use Rattle.fp_spec.specs.Calls.{calls_at, all_calls_at}

-- the variables of the terms beside those that are known, in the order of their first places
abbrev pub with_all_variables : Variables → List Tm → Variables
with_all_variables known [] = known
with_all_variables known (t ∷ ts) = with_all_variables (with_variables known t) ts

-- the variables of a clause
abbrev pub clause_variables : Clause → Variables
clause_variables clause = with_all_variables [] clause.patterns

-- `x = in(p)`
abbrev pub argument_is : List Head → Tm → Clause → Tm
argument_is heads x clause = equal (argument_sum heads) x (in_term heads clause.function clause.patterns)

-- `x = in(p) /\ y = inr(r[h])`
abbrev pub clause_fact : List Head → Tm → Tm → Tm → Clause → Tm
clause_fact heads h x y clause =
    conjunction (argument_is heads x clause) (equal (result_sum heads) y (result_in heads clause.function (calls_at heads h clause.right)))

-- `?vars. x = in(p) /\ y = inr(r[h])`
abbrev pub clause_part : List Head → Tm → Tm → Tm → Clause → Tm
clause_part heads h x y clause = for_somes (clause_variables clause) (clause_fact heads h x y clause)

-- `z = in(a[h])`
abbrev pub call_is : List Head → Tm → Tm → CallSite → Tm
call_is heads h z site = equal (argument_sum heads) z (in_term heads site.callee (all_calls_at heads h site.args))

-- `x = in(p) /\ G1[h] /\ .. /\ z = in(a[h])`
abbrev pub row_fact : List Head → Tm → Tm → Tm → Clause → CallSite → Tm
row_fact heads h z x clause site = conjunctions (argument_is heads x clause ∷ (all_calls_at heads h site.guards ++ call_is heads h z site ∷ []))

-- `?vars. x = in(p) /\ G1[h] /\ .. /\ z = in(a[h])`
abbrev pub row_by : List Head → Tm → Tm → Tm → CallSite → Option Clause → Tm
row_by heads h z x site None = false_constant
row_by heads h z x site (Some clause) = for_somes (clause_variables clause ++ site.vars) (row_fact heads h z x clause site)

abbrev pub row_part : List Head → List Clause → Tm → Tm → Tm → CallSite → Tm
row_part heads clauses h z x site = row_by heads h z x site (slice_get clauses site.clause)

-- what some clause, or some row, says
abbrev pub some_clause : List Head → List Clause → Tm → Tm → Tm → Tm
some_clause heads clauses h x y = disjunctions (map (clause_part heads h x y) clauses)

abbrev pub some_row : List Head → List Clause → List CallSite → Tm → Tm → Tm → Tm
some_row heads clauses sites h z x = disjunctions (map (row_part heads clauses h z x) sites)
