-- The bodies that say what the clauses and the rows are have the types of the constants that they define.
use Rattle.std.proofs.Common.{◌≡◌, ℕ, zero, suc, List, [], ◌∷◌, ◌++◌, map, refl}
use Rattle.std.specs.Prelude.{Option, Some, None, codes}
use Rattle.std.specs.List.{slice_get}
use Rattle.fp_term.specs.Types.{Typ}
use Rattle.fp_term.specs.Terms.{Tm, constant}
use Rattle.fp_term.specs.Names.{equality}
use Rattle.fp_term.specs.Typing.{type_under}
use Rattle.fp_conclude.specs.Logic.{truth_type, equality_type, equal}
use Rattle.fp_group.specs.declared.clause.Head.{Head}
use Rattle.fp_group.specs.declared.clause.Clause.{Clause}
use Rattle.fp_group.specs.declared.site.CallSite.{CallSite}
use Rattle.fp_group.specs.declared.group.Group.{Group}
use Rattle.fp_shapes.specs.Joined.{disjunctions, conjunctions}
use Rattle.fp_shapes.proofs.Laws.{lambdas_typed, somes_typed}
use Rattle.fp_spec.specs.Heads.{result_types, argument_sum, result_sum, in_term, result_in}
use Rattle.fp_spec.specs.Calls.{calls_at, all_calls_at}
use Rattle.fp_spec.specs.Relations.{clause_variables, argument_is, clause_fact, clause_part, call_is, row_fact, row_by, row_part}
use Rattle.fp_spec.specs.Defining.{family_relation, letters_by, as_term, clauses_body, calls_body}
use Rattle.fp_bodies.specs.Fits.{AreTruths, AreTaken, IsClause, AreClauses, IsSite, AreSites}
use Rattle.fp_bodies.proofs.Values.{inject_typed}
use Rattle.fp_bodies.proofs.Bodies.{two_typed, joined_typed, mapped_at, in_typed}

equal_typed : (s : Typ) (t u : Tm) → type_under [] t ≡ Some s → type_under [] u ≡ Some s → type_under [] (equal s t u) ≡ Some truth_type
equal_typed s t u t_is u_is = two_typed (constant equality (equality_type s)) t u s s truth_type refl t_is u_is

either_typed : (ts : List Tm) → AreTruths ts → type_under [] (disjunctions ts) ≡ Some truth_type
either_typed [] h = refl
either_typed (t ∷ []) h = h.0
either_typed (t ∷ u ∷ ts) h = joined_typed (codes "or") t (disjunctions (u ∷ ts)) h.0 (either_typed (u ∷ ts) h.1)

all_typed : (ts : List Tm) → AreTruths ts → type_under [] (conjunctions ts) ≡ Some truth_type
all_typed [] h = refl
all_typed (t ∷ []) h = h.0
all_typed (t ∷ u ∷ ts) h = joined_typed (codes "and") t (conjunctions (u ∷ ts)) h.0 (all_typed (u ∷ ts) h.1)

and_last : (ts : List Tm) (t : Tm) → AreTruths ts → type_under [] t ≡ Some truth_type → AreTruths (ts ++ t ∷ [])
and_last [] t h e = (e, tt)
and_last (u ∷ ts) t h e = (h.0, and_last ts t h.1 e)

taken_typed : (heads : List Head) (i : ℕ) (args : List Tm) → AreTaken heads i args → type_under [] (in_term heads i args) ≡ Some (argument_sum heads)
taken_typed heads i args k = in_typed heads i k.head k.first k.more args k.place k.takes k.typed

result_typed : (heads : List Head) (i : ℕ) (head : Head) (t : Tm) → slice_get heads i ≡ Some head → type_under [] t ≡ Some head.result → type_under [] (result_in heads i t) ≡ Some (result_sum heads)
result_typed heads i head t place e = rw place (inject_typed (result_types heads) i head.result t (mapped_at (λ (h : Head). h.result) heads i head place) e)

module _ (heads : List Head) (h x : Tm) (x_is : type_under [] x ≡ Some (argument_sum heads)) where
  argument_typed : (c : Clause) → IsClause heads h c → type_under [] (argument_is heads x c) ≡ Some truth_type
  argument_typed c k = equal_typed (argument_sum heads) x (in_term heads c.function c.patterns) x_is (taken_typed heads c.function c.patterns k.taken)

  module _ (y : Tm) (y_is : type_under [] y ≡ Some (result_sum heads)) where
    clause_typed : (c : Clause) → IsClause heads h c → type_under [] (clause_part heads h x y c) ≡ Some truth_type
    clause_typed c k =
        let value = result_in heads c.function (calls_at heads h c.right) in
        let value_is : type_under [] value ≡ Some (result_sum heads) = result_typed heads c.function k.taken.head (calls_at heads h c.right) k.taken.place k.right in
        let second = equal_typed (result_sum heads) y value y_is value_is in
        somes_typed (clause_variables c) (clause_fact heads h x y c) (joined_typed (codes "and") (argument_is heads x c) (equal (result_sum heads) y value) (argument_typed c k) second)

    clauses_typed : (cs : List Clause) → AreClauses heads h cs → AreTruths (map (clause_part heads h x y) cs)
    clauses_typed [] k = tt
    clauses_typed (c ∷ cs) k = (clause_typed c k.0, clauses_typed cs k.1)

  module _ (z : Tm) (z_is : type_under [] z ≡ Some (argument_sum heads)) where
    row_typed : (site : CallSite) (o : Option Clause) → IsSite heads h site → ((c : Clause) → o ≡ Some c → IsClause heads h c) → type_under [] (row_by heads h z x site o) ≡ Some truth_type
    row_typed site None k own = refl
    row_typed site (Some c) k own =
        let last = equal_typed (argument_sum heads) z (in_term heads site.callee (all_calls_at heads h site.args)) z_is (taken_typed heads site.callee (all_calls_at heads h site.args) k.taken) in
        let parts = and_last (all_calls_at heads h site.guards) (call_is heads h z site) k.guards last in
        somes_typed (clause_variables c ++ site.vars) (row_fact heads h z x c site)
        (all_typed (argument_is heads x c ∷ (all_calls_at heads h site.guards ++ call_is heads h z site ∷ [])) (argument_typed c (own c refl), parts))

    clause_at : (cs : List Clause) (i : ℕ) (c : Clause) → AreClauses heads h cs → slice_get cs i ≡ Some c → IsClause heads h c
    clause_at [] i c k e = cc
    clause_at (d ∷ cs) zero c k e = rw (← same d c e) k.0
      where
        same : (a b : Clause) → Some a ≡ Some b → a ≡ b
        same a b q = cc
    clause_at (d ∷ cs) (suc i) c k e = clause_at cs i c k.1 e

    rows_typed : (cs : List Clause) (sites : List CallSite) → AreClauses heads h cs → AreSites heads h sites → AreTruths (map (row_part heads cs h z x) sites)
    rows_typed cs [] k l = tt
    rows_typed cs (site ∷ sites) k l = (row_typed site (slice_get cs site.clause) l.0 (λ c e. clause_at cs site.clause c k e), rows_typed cs sites k l.1)

pub clauses_body_typed :
    (g : Group) (known : List (List ℕ)) → AreClauses g.heads (as_term (letters_by known g.heads).h) g.clauses →
    type_under [] (clauses_body g (letters_by known g.heads)) ≡ Some (family_relation g.heads (result_sum g.heads))
clauses_body_typed g known k =
    let l = letters_by known g.heads in
    let parts = map (clause_part g.heads (as_term l.h) (as_term l.x) (as_term l.y)) g.clauses in
    lambdas_typed (l.h ∷ l.x ∷ l.y ∷ []) (disjunctions parts) truth_type
    (either_typed parts (clauses_typed g.heads (as_term l.h) (as_term l.x) refl (as_term l.y) refl g.clauses k))

pub calls_body_typed :
    (g : Group) (known : List (List ℕ)) → AreClauses g.heads (as_term (letters_by known g.heads).h) g.clauses → AreSites g.heads (as_term (letters_by known g.heads).h) g.sites →
    type_under [] (calls_body g (letters_by known g.heads)) ≡ Some (family_relation g.heads (argument_sum g.heads))
calls_body_typed g known k m =
    let l = letters_by known g.heads in
    let parts = map (row_part g.heads g.clauses (as_term l.h) (as_term l.z) (as_term l.x)) g.sites in
    lambdas_typed (l.h ∷ l.z ∷ l.x ∷ []) (disjunctions parts) truth_type
    (either_typed parts (rows_typed g.heads (as_term l.h) (as_term l.x) refl (as_term l.z) refl g.clauses g.sites k m))
