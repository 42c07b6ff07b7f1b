-- What stands where a group has no such function or clause.
use Rattle.std.proofs.Common.{◌≡◌, ℕ, ◌≤◌, Bool, List, length, sym, ap}
use Rattle.fp_term.specs.Terms.{Tm}
use Rattle.fp_conclude.specs.Logic.{true_constant, false_constant}
use Rattle.fp_group.specs.declared.clause.Head.{Head}
use Rattle.fp_group.specs.declared.clause.Clause.{Clause}
use Rattle.fp_group.specs.declared.site.CallSite.{CallSite}
use Rattle.fp_group.specs.declared.group.Group.{Group}
use Rattle.fp_shapes.specs.Binders.{Variables}
use Rattle.fp_spec.specs.Heads.{in_by, in_term}
use Rattle.fp_spec.specs.Relations.{row_by, row_part}
use Rattle.fp_spec.specs.Statements.{clause_equation_by, clause_equation, of_clause, guarded_equation, simp_of, psimp_of, holds_by, holds, induction_by, induction_of}
use Rattle.fp_spec.proofs.Within.{none_there}

pub no_argument : (heads : List Head) (i : ℕ) (args : List Tm) → length heads ≤ i → true_constant ≡ in_term heads i args
no_argument heads i args h = sym (ap (in_by heads i args) (none_there heads i h))

pub no_row : (heads : List Head) (clauses : List Clause) (h z x : Tm) (site : CallSite) → length clauses ≤ site.clause → false_constant ≡ row_part heads clauses h z x site
no_row heads clauses h z x site le = sym (ap (row_by heads h z x site) (none_there clauses site.clause le))

pub no_equation : (heads : List Head) (clause : Clause) → length heads ≤ clause.function → true_constant ≡ clause_equation heads clause
no_equation heads clause h = sym (ap (clause_equation_by clause) (none_there heads clause.function h))

pub no_simp : (g : Group) (j : ℕ) → length g.clauses ≤ j → true_constant ≡ simp_of g j
no_simp g j h = sym (ap (of_clause (clause_equation g.heads)) (none_there g.clauses j h))

pub no_psimp : (g : Group) (j : ℕ) → length g.clauses ≤ j → true_constant ≡ psimp_of g j
no_psimp g j h = sym (ap (of_clause (guarded_equation g.heads)) (none_there g.clauses j h))

pub not_held : (predicates : Variables) (i : ℕ) (args : List Tm) → length predicates ≤ i → true_constant ≡ holds predicates i args
not_held predicates i args h = sym (ap (λ o. holds_by o args) (none_there predicates i h))

pub no_induction : (partial : Bool) (g : Group) (i : ℕ) → length g.heads ≤ i → true_constant ≡ induction_of partial g i
no_induction partial g i h = sym (ap (induction_by partial g i) (none_there g.heads i h))
