-- The bodies of a group's definitions have the types of the constants that they define.
use Rattle.std.proofs.Common.{◌≡◌, ◌∙◌, ℕ, zero, suc, ◌+◌, true, ◌&&◌, List, [], ◌∷◌, length, map, refl, ap, arith}
use Rattle.std.specs.Prelude.{Some, codes, nat_lt}
use Rattle.std.specs.List.{slice_get}
use Rattle.std.proofs.lemmas.Option.{same_Some}
use Rattle.std.proofs.lemmas.Bool.{lt-ltb}
use Rattle.std.proofs.lemmas.Bool.Decides.{Decides-eqb}
use Rattle.fp_term.specs.Types.{Typ}
use Rattle.fp_term.specs.Terms.{Tm, app, constant}
use Rattle.fp_term.specs.Typing.{type_under, function_type, function_type_over}
use Rattle.fp_term.proofs.Typed.{app_typed}
use Rattle.fp_conclude.specs.Logic.{truth_type, predicate_type, select_type, connective, implication, quantifier, select}
use Rattle.fp_group.specs.declared.clause.Head.{Head}
use Rattle.fp_shapes.specs.Tuples.{tuple}
use Rattle.fp_shapes.specs.Binders.{lambdas, for_somes, for_alls, curried}
use Rattle.fp_shapes.proofs.Laws.{lambdas_typed, somes_typed}
use Rattle.fp_spec.specs.Heads.{argument_type, argument_types, result_types, argument_sum, result_sum, family_type, parameters_from, parameters, are_arguments, in_term, result_out}
use Rattle.fp_spec.specs.Defining.{at_two, at_three, relation_type, clauses_constant, calls_constant, graph_constant, sum_constant, rel_constant, lfp_constant, acc_constant, letters_by, as_term, as_terms, step_fact, graph_body, sum_body, rel_body, dom_body, function_body}
use Rattle.fp_bodies.specs.Fits.{HaveTypes}
use Rattle.fp_bodies.proofs.Values.{tuple_typed, inject_typed, project_typed}

pub two_typed : (c x y : Tm) (s t u : Typ) → type_under [] c ≡ Some (function_type s (function_type t u)) → type_under [] x ≡ Some s → type_under [] y ≡ Some t → type_under [] (at_two c x y) ≡ Some u
two_typed c x y s t u c_is x_is y_is = app_typed [] (app c x) y t u (app_typed [] c x s (function_type t u) c_is x_is) y_is

three_typed : (c x y z : Tm) (s t u v : Typ) → type_under [] c ≡ Some (function_type s (function_type t (function_type u v))) → type_under [] x ≡ Some s → type_under [] y ≡ Some t → type_under [] z ≡ Some u →
    type_under [] (at_three c x y z) ≡ Some v
three_typed c x y z s t u v c_is x_is y_is z_is = app_typed [] (app (app c x) y) z u v (two_typed c x y s t (function_type u v) c_is x_is y_is) z_is

pub joined_typed : (name : List ℕ) (p q : Tm) → type_under [] p ≡ Some truth_type → type_under [] q ≡ Some truth_type → type_under [] (app (app (connective name) p) q) ≡ Some truth_type
joined_typed name p q p_is q_is = two_typed (connective name) p q truth_type truth_type truth_type refl p_is q_is

all_typed : (v : List ℕ × Typ) (t : Tm) → type_under [] t ≡ Some truth_type → type_under [] (for_alls (v ∷ []) t) ≡ Some truth_type
all_typed v t e = app_typed [] (quantifier (codes "all") v.1) (lambdas (v ∷ []) t) (predicate_type v.1) truth_type refl (lambdas_typed (v ∷ []) t truth_type e)

-- the relations
module _ (known : List (List ℕ)) (heads : List Head) where
  step_typed : type_under [] (step_fact heads (letters_by known heads)) ≡ Some truth_type
  step_typed =
      let l = letters_by known heads in
      let call = at_three (calls_constant heads) (as_term l.h) (as_term l.z) (as_term l.x) in
      let relates = at_two (as_term l.relation) (as_term l.z) (app (as_term l.h) (as_term l.z)) in
      let says = at_three (clauses_constant heads) (as_term l.h) (as_term l.x) (as_term l.y) in
      let called : type_under [] call ≡ Some truth_type =
      three_typed (calls_constant heads) (as_term l.h) (as_term l.z) (as_term l.x) (family_type heads) (argument_sum heads) (argument_sum heads) truth_type refl refl refl refl in
      let value = app_typed [] (as_term l.h) (as_term l.z) (argument_sum heads) (result_sum heads) refl refl in
      let related : type_under [] relates ≡ Some truth_type =
      two_typed (as_term l.relation) (as_term l.z) (app (as_term l.h) (as_term l.z)) (argument_sum heads) (result_sum heads) truth_type refl refl value in
      let each = all_typed l.z (implication call relates) (joined_typed (codes "imp") call relates called related) in
      let clause : type_under [] says ≡ Some truth_type =
      three_typed (clauses_constant heads) (as_term l.h) (as_term l.x) (as_term l.y) (family_type heads) (argument_sum heads) (result_sum heads) truth_type refl refl refl refl in
      joined_typed (codes "and") (for_alls (l.z ∷ []) (implication call relates)) says each clause

  pub graph_typed : type_under [] (graph_body heads (letters_by known heads)) ≡ Some (relation_type (argument_sum heads) (result_sum heads))
  graph_typed =
      let l = letters_by known heads in
      let s = relation_type (argument_sum heads) (result_sum heads) in
      let some = somes_typed (l.h ∷ []) (step_fact heads l) step_typed in
      app_typed [] (lfp_constant s) (lambdas (l.relation ∷ l.x ∷ l.y ∷ []) (for_somes (l.h ∷ []) (step_fact heads l))) (function_type s s) s refl
      (lambdas_typed (l.relation ∷ l.x ∷ l.y ∷ []) (for_somes (l.h ∷ []) (step_fact heads l)) truth_type some)

  pub sum_typed : type_under [] (sum_body heads (letters_by known heads)) ≡ Some (family_type heads)
  sum_typed =
      let l = letters_by known heads in
      let relates = at_two (graph_constant heads) (as_term l.x) (as_term l.y) in
      let related : type_under [] relates ≡ Some truth_type = two_typed (graph_constant heads) (as_term l.x) (as_term l.y) (argument_sum heads) (result_sum heads) truth_type refl refl refl in
      let values = lambdas (l.y ∷ []) relates in
      let chosen =
      app_typed [] (constant (codes "select") (select_type (result_sum heads))) values (predicate_type (result_sum heads)) (result_sum heads) refl (lambdas_typed (l.y ∷ []) relates truth_type related) in
      lambdas_typed (l.x ∷ []) (select l.y.1 values) (result_sum heads) chosen

  pub rel_typed : type_under [] (rel_body heads (letters_by known heads)) ≡ Some (relation_type (argument_sum heads) (argument_sum heads))
  rel_typed =
      let l = letters_by known heads in
      let call = at_three (calls_constant heads) (sum_constant heads) (as_term l.z) (as_term l.x) in
      lambdas_typed (l.z ∷ l.x ∷ []) call truth_type
      (three_typed (calls_constant heads) (sum_constant heads) (as_term l.z) (as_term l.x) (family_type heads) (argument_sum heads) (argument_sum heads) truth_type refl refl refl refl)

pub dom_typed : (heads : List Head) → type_under [] (dom_body heads) ≡ Some (predicate_type (argument_sum heads))
dom_typed heads =
    let s = argument_sum heads in
    app_typed [] (acc_constant s) (rel_constant heads) (relation_type s s) (predicate_type s) refl refl

-- the functions
pub mapped_at : {X Y : Type 0} → (f : X → Y) (xs : List X) (i : ℕ) (x : X) → slice_get xs i ≡ Some x → slice_get (map f xs) i ≡ Some (f x)
mapped_at f [] i x e = cc
mapped_at f (y ∷ xs) zero x e = ap (λ z. Some (f z)) (same_Some y x e)
mapped_at f (y ∷ xs) (suc i) x e = mapped_at f xs i x e

as_many : (tys : List Typ) (ts : List Tm) → HaveTypes tys ts → length ts ≡ length tys
as_many [] [] h = refl
as_many [] (t ∷ ts) h = absurd h
as_many (s ∷ tys) [] h = absurd h
as_many (s ∷ tys) (t ∷ ts) h = ap suc (as_many tys ts h.1)

some : (n : ℕ) → (true && nat_lt 0 (suc n)) ≡ true
some n = lt-ltb 0 (suc n) (omega arith)

are_fit : (head : Head) (s : Typ) (tys : List Typ) (args : List Tm) → head.args ≡ s ∷ tys → HaveTypes head.args args → are_arguments head args ≡ true
are_fit head s tys [] e h = absurd (rw e at h)
are_fit head s tys (a ∷ args) e h = rw ((Decides-eqb (length (a ∷ args)) (length head.args)).1 (as_many head.args (a ∷ args) h)) (some (length args))

tupled : (head : Head) (s : Typ) (tys : List Typ) (args : List Tm) → head.args ≡ s ∷ tys → HaveTypes head.args args → type_under [] (tuple head.args args) ≡ Some (argument_type head)
tupled head s tys args e h = rw e (tuple_typed s tys args (rw e at h))

-- the argument of a function, as one of all arguments
pub in_typed :
    (heads : List Head) (i : ℕ) (head : Head) (s : Typ) (tys : List Typ) (args : List Tm) → slice_get heads i ≡ Some head → head.args ≡ s ∷ tys → HaveTypes head.args args →
    type_under [] (in_term heads i args) ≡ Some (argument_sum heads)
in_typed heads i head s tys args place e h =
    rw (place, are_fit head s tys args e h) (inject_typed (argument_types heads) i (argument_type head) (tuple head.args args) (mapped_at argument_type heads i head place) (tupled head s tys args e h))

pub out_typed : (heads : List Head) (i : ℕ) (head : Head) (t : Tm) → slice_get heads i ≡ Some head → type_under [] t ≡ Some (result_sum heads) → type_under [] (result_out heads i t) ≡ Some head.result
out_typed heads i head t place e = rw place (project_typed (result_types heads) i head.result t (mapped_at (λ (h : Head). h.result) heads i head place) e)

parameters_typed : (n : ℕ) (tys : List Typ) → HaveTypes tys (as_terms (parameters_from n tys))
parameters_typed n [] = tt
parameters_typed n (s ∷ tys) = (refl, parameters_typed (n + 1) tys)

over_parameters : (n : ℕ) (tys : List Typ) (r : Typ) → curried (parameters_from n tys) r ≡ function_type_over tys r
over_parameters n [] r = refl
over_parameters n (s ∷ tys) r = ap (function_type s) (over_parameters (n + 1) tys r)

pub function_typed :
    (heads : List Head) (i : ℕ) (head : Head) (s : Typ) (tys : List Typ) → slice_get heads i ≡ Some head → head.args ≡ s ∷ tys →
    type_under [] (function_body heads i head) ≡ Some (function_type_over head.args head.result)
function_typed heads i head s tys place e =
    let vars = parameters head in
    let argument = in_term heads i (as_terms vars) in
    let value = app_typed [] (sum_constant heads) argument (argument_sum heads) (result_sum heads) refl (in_typed heads i head s tys (as_terms vars) place e (parameters_typed 1 head.args)) in
    lambdas_typed vars (result_out heads i (app (sum_constant heads) argument)) head.result (out_typed heads i head (app (sum_constant heads) argument) place value)
    ∙ ap Some (over_parameters 1 head.args head.result)
