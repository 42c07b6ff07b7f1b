-- What is derived from premises that are known to have a rule's shape.
use Rattle.std.proofs.Common.{◌≡◌, ◌∙◌, ℕ, List, [], ◌∷◌, refl as same_path, sym, subst}
use Rattle.std.specs.Prelude.{Some, Result, Ok, Err, IfOk}
use Rattle.std.proofs.lemmas.Option.{same_Some}
use Rattle.fp_term.specs.Types.{Typ}
use Rattle.fp_term.specs.Terms.{Tm, app, abs, replaced, retyped_term}
use Rattle.fp_term.specs.Typing.{type_under, function_type}
use Rattle.fp_term.specs.Signatures.{IsWellTyped}
use Rattle.fp_term.proofs.Typed.{app_parts, same_function}
use Rattle.fp_conclude.specs.Logic.{truth_type, equal}
use Rattle.fp_conclude.specs.Hypotheses.{union, all_replaced, all_retyped_terms}
use Rattle.fp_conclude.specs.Parts.{function_parts}
use Rattle.fp_conclude.specs.Shapes.{function_in, argument_in, body_in, binder_in, side_type, left, right, IsRedex}
use Rattle.fp_conclude.specs.Known.{trans_concl, mk_comb_concl, lam_concl, reduct, beta_concl}
use Rattle.fp_conclude.proofs.Equations.{function_shape}
use Rattle.fp_kernel.specs.Definitions.{Def}
use Rattle.fp_kernel.specs.Start.{signature_of}
use Rattle.fp_kernel.specs.Theorems.{Theorem, IsTheorem, promise_union}
use Rattle.fp_kernel.specs.Known.{IsTyped, CanTrans, CanMkComb, CanLam, CanEqMp, CanInst, CanInstTy}
use Rattle.fp_kernel.specs.Derivability.{Derives, refl, trans, mk_comb, lam, beta, eq_mp, inst, inst_ty}
use Rattle.fp_kernel.proofs.Formulas.{formula_of, sides}
use Rattle.fp_kernel.proofs.Premises.{alone, before, after}

-- the type of an application, from that of its function
pub result_type : (f x : Tm) (t : Typ) (p : Typ × Typ) → ((s : Typ) → type_under [] f ≡ Some s → s ≡ t) → function_parts t ≡ Some p → (s : Typ) → type_under [] (app f x) ≡ Some s → s ≡ p.1
result_type f x t p h e s k =
    let a = app_parts [] f x s k in
    (same_function a.0 s p.0 p.1 (h (function_type a.0 s) a.1 ∙ function_shape t p e)).1

module _ (defs : List Def) where
  typed_as : (t : Tm) (s : Typ) → IsTyped defs t → type_under [] t ≡ Some s → IsWellTyped (signature_of defs) t s
  typed_as t s h e = record { typed = e; over = h.1.over }

  pub by_refl : (t : Tm) (s : Typ) → IsTyped defs t → type_under [] t ≡ Some s → Derives defs [] [] (equal s t t)
  by_refl t s h e = refl s t (typed_as t s h e)

  pub by_beta : (t : Tm) (s : Typ) → IsRedex t → IsTyped defs t → type_under [] t ≡ Some s → Derives defs [] [] (beta_concl s t)
  by_beta t s is h e =
      let parts = app (abs (binder_in (function_in t)) (body_in (function_in t))) (argument_in t) in
      let whole : IsWellTyped (signature_of defs) parts s = subst (λ (x : Tm). IsWellTyped (signature_of defs) x s) is (typed_as t s h e) in
      let derived : Derives defs [] [] (equal s parts (reduct t)) = beta s (binder_in (function_in t)) (body_in (function_in t)) (argument_in t) whole in
      subst (λ (x : Tm). Derives defs [] [] (equal s x (reduct t))) (sym is) derived

-- what is given for a term at its type is given at each type that it has
pub at_each_type : {E : Type 0} (r : Result Theorem E) (t : Tm) (f : Typ → Theorem) (u : Typ) → type_under [] t ≡ Some u → IfOk r (λ th. th ≡ f u) →
    IfOk r (λ th. (s : Typ) → type_under [] t ≡ Some s → th ≡ f s)
at_each_type (Ok th) t f u e h = λ s is. rw (← same_Some u s (sym e ∙ is)) h
at_each_type (Err fault) t f u e h = tt

module _ {defs : List Def} (a b : Theorem) (d : IsTheorem a) (e : IsTheorem b) where
  pub by_trans : CanTrans defs a b → (c : Tm) → c ≡ trans_concl a.concl b.concl → Derives defs (promise_union a.promises b.promises) (union a.hyps b.hyps) c
  by_trans h c is =
      let first = subst (Derives defs (promise_union a.promises b.promises) a.hyps) h.2 (before a b a.concl h.0 d same_path) in
      let second = subst (Derives defs (promise_union a.promises b.promises) b.hyps) h.3 (after a b b.concl h.1 e same_path) in
      rw is (trans first second)

  pub by_mk_comb : CanMkComb defs a b → (c : Tm) → c ≡ mk_comb_concl a.concl b.concl → Derives defs (promise_union a.promises b.promises) (union a.hyps b.hyps) c
  by_mk_comb h c is =
      let first = subst (Derives defs (promise_union a.promises b.promises) a.hyps) h.2 (before a b a.concl h.0 d same_path) in
      let second = subst (Derives defs (promise_union a.promises b.promises) b.hyps) h.3 (after a b b.concl h.1 e same_path) in
      rw is (mk_comb first second)

  pub by_eq_mp : CanEqMp defs a b → (c : Tm) → c ≡ right a.concl → Derives defs (promise_union a.promises b.promises) (union a.hyps b.hyps) c
  by_eq_mp h c is =
      let second = after a b b.concl h.1 e same_path in
      let first = subst (Derives defs (promise_union a.promises b.promises) a.hyps) h.2 (before a b a.concl h.0 d same_path) in
      let s = (sides (signature_of defs) (side_type a.concl) b.concl (right a.concl) (formula_of first)).left in
      let truth = same_Some (side_type a.concl) truth_type (sym s.typed ∙ (formula_of second).typed) in
      let at_truth = subst (λ (u : Typ). Derives defs (promise_union a.promises b.promises) a.hyps (equal u b.concl (right a.concl))) truth first in
      rw is (eq_mp at_truth second)

module _ {defs : List Def} (a : Theorem) (d : IsTheorem a) where
  pub by_lam : (name : List ℕ) (ty : Typ) → CanLam defs name ty a → Derives defs a.promises a.hyps (lam_concl name ty a.concl)
  by_lam name ty h = lam name ty h.1 h.3 (subst (Derives defs a.promises a.hyps) h.2 (alone a a.concl h.0 d same_path))

  pub by_inst : (pairs : List (List ℕ × Typ × Tm)) → CanInst defs pairs a → Derives defs a.promises (all_replaced pairs a.hyps) (replaced pairs a.concl)
  by_inst pairs h = inst pairs h.1 (alone a a.concl h.0 d same_path)

  pub by_inst_ty : (pairs : List (List ℕ × Typ)) → CanInstTy defs pairs a → Derives defs a.promises (all_retyped_terms pairs a.hyps) (retyped_term pairs a.concl)
  by_inst_ty pairs h = inst_ty pairs h.1 (alone a a.concl h.0 d same_path)
