-- Each hypothesis of what is derivable is a formula.
use Rattle.std.proofs.Common.{◌≡◌, ◌∙◌, ℕ, Bool, true, false, cond, not, ◌||◌, List, [], ◌∷◌, ◌++◌, map, refl}
use Rattle.fp_term.specs.declared.signature.Signature.{Signature}
use Rattle.fp_term.specs.Types.{Typ}
use Rattle.fp_term.specs.Terms.{Tm, term_eq, replaced, retyped_term}
use Rattle.fp_term.proofs.Equal.{term_eq-decides}
use Rattle.fp_conclude.specs.Hypotheses.{member, union, without}
use Rattle.fp_conclude.specs.Checks.{AreTerms, AreTypesOf}
use Rattle.fp_kernel.specs.Definitions.{Def}
use Rattle.fp_kernel.specs.Start.{signature_of}
use Rattle.fp_kernel.specs.Derivability.{IsFormula, AreFormulas}
use Rattle.fp_kernel.specs.Derivability.{Derives, refl as reflexive, trans, mk_comb, lam, beta, assume, eq_mp, antisym, inst, inst_ty, axiom_of, connective_of, constant_of, abs_rep_of, rep_abs_of, promise_of, as_set}
use Rattle.fp_kernel.proofs.Formulas.{replaced_formula, retyped_formula}

-- one of two tests holds
either : (b c : Bool) (P : Type 0) → (b ≡ true → P) → (c ≡ true → P) → (b || c) ≡ true → P
either true c P f h e = f refl
either false c P f h e = h e

or_else_true : (b c : Bool) → c ≡ true → (b || c) ≡ true
or_else_true true c e = refl
or_else_true false c e = e

-- lists of formulas
module _ (g : Signature) where
  formulas_append : (ts us : List Tm) → AreFormulas g ts → AreFormulas g us → AreFormulas g (ts ++ us)
  formulas_append [] us h k = k
  formulas_append (t ∷ ts) us h k = (h.0, formulas_append ts us h.1 k)

  one_more_unless : (b : Bool) (ts : List Tm) (t : Tm) → AreFormulas g ts → IsFormula g t → AreFormulas g (cond b ts (ts ++ t ∷ []))
  one_more_unless true ts t h k = h
  one_more_unless false ts t h k = formulas_append ts (t ∷ []) h (k, tt)

  formulas_union : (ts us : List Tm) → AreFormulas g ts → AreFormulas g us → AreFormulas g (union ts us)
  formulas_union ts [] h k = h
  formulas_union ts (u ∷ us) h k = formulas_union (cond (member u ts) ts (ts ++ u ∷ [])) us (one_more_unless (member u ts) ts u h k.0) k.1

  one_more_if : (b : Bool) (t : Tm) (ts : List Tm) → IsFormula g t → AreFormulas g ts → AreFormulas g (cond b (t ∷ ts) ts)
  one_more_if true t ts h k = (h, k)
  one_more_if false t ts h k = k

  formulas_without : (t : Tm) (ts : List Tm) → AreFormulas g ts → AreFormulas g (without t ts)
  formulas_without t [] h = tt
  formulas_without t (u ∷ us) h = one_more_if (not (term_eq t u)) u (without t us) h.0 (formulas_without t us h.1)

  formulas_replaced : (pairs : List (List ℕ × Typ × Tm)) → AreTerms g pairs → (ts : List Tm) → AreFormulas g ts → AreFormulas g (map (replaced pairs) ts)
  formulas_replaced pairs h [] k = tt
  formulas_replaced pairs h (t ∷ ts) k = (replaced_formula g pairs h t k.0, formulas_replaced pairs h ts k.1)

  formulas_retyped : (pairs : List (List ℕ × Typ)) → AreTypesOf g pairs → (ts : List Tm) → AreFormulas g ts → AreFormulas g (map (retyped_term pairs) ts)
  formulas_retyped pairs h [] k = tt
  formulas_retyped pairs h (t ∷ ts) k = (retyped_formula g pairs h t k.0, formulas_retyped pairs h ts k.1)

  -- they are formulas just where each member is
  pub member_formula : (ts : List Tm) (t : Tm) → AreFormulas g ts → member t ts ≡ true → IsFormula g t
  member_formula [] t h e = cc
  member_formula (u ∷ us) t h e = either (term_eq t u) (member t us) (IsFormula g t) (λ is. rw ((term_eq-decides t u).0 is) h.0) (λ is. member_formula us t h.1 is) e

  each_formula : (ts : List Tm) → ((t : Tm) → member t ts ≡ true → IsFormula g t) → AreFormulas g ts
  each_formula [] f = tt
  each_formula (u ∷ us) f = (f u (rw ((term_eq-decides u u).1 refl) refl), each_formula us (λ t is. f t (or_else_true (term_eq t u) (member t us) is)))

pub formulas_of : {defs : List Def} {promises : List (ℕ × Tm)} {hyps : List Tm} {p : Tm} → Derives defs promises hyps p → AreFormulas (signature_of defs) hyps
formulas_of (reflexive s t h) = tt
formulas_of {defs} (trans {hyps = hyps} {more = more} d e) = formulas_union (signature_of defs) hyps more (formulas_of d) (formulas_of e)
formulas_of {defs} (mk_comb {hyps = hyps} {more = more} d e) = formulas_union (signature_of defs) hyps more (formulas_of d) (formulas_of e)
formulas_of (lam name ty h apart d) = formulas_of d
formulas_of (beta s ty body arg h) = tt
formulas_of (assume t h) = (h, tt)
formulas_of {defs} (eq_mp {hyps = hyps} {more = more} d e) = formulas_union (signature_of defs) hyps more (formulas_of d) (formulas_of e)
formulas_of {defs} (antisym {hyps = hyps} {more = more} {p = p} {q = q} d e) =
    formulas_union (signature_of defs) (without q hyps) (without p more) (formulas_without (signature_of defs) q hyps (formulas_of d)) (formulas_without (signature_of defs) p more (formulas_of e))
formulas_of {defs} (inst {hyps = hyps} pairs h d) =
    formulas_union (signature_of defs) [] (map (replaced pairs) hyps) tt (formulas_replaced (signature_of defs) pairs h hyps (formulas_of d))
formulas_of {defs} (inst_ty {hyps = hyps} pairs h d) =
    formulas_union (signature_of defs) [] (map (retyped_term pairs) hyps) tt (formulas_retyped (signature_of defs) pairs h hyps (formulas_of d))
formulas_of (axiom_of i) = tt
formulas_of (connective_of i) = tt
formulas_of (constant_of i h) = tt
formulas_of (abs_rep_of i h) = tt
formulas_of (rep_abs_of i h) = tt
formulas_of (promise_of i h) = tt
formulas_of {defs} (as_set {hyps = hyps} {more = more} same d) =
    each_formula (signature_of defs) more (λ t is. member_formula (signature_of defs) hyps t (formulas_of d) (same t ∙ is))
