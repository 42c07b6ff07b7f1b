-- What can be derived from definitions, promises and hypotheses.
use Rattle.std.specs.Prelude.{◌≡◌, ℕ, false, List, [], ◌∷◌}
use Rattle.fp_term.specs.Types.{Typ}
use Rattle.fp_term.specs.Terms.{Tm, constant, app, abs, opened, closed, replaced, retyped_term}
use Rattle.fp_term.specs.Typing.{function_type}
use Rattle.fp_term.specs.Signatures.{IsType, IsWellTyped}
use Rattle.fp_term.specs.declared.signature.Signature.{Signature}
use Rattle.fp_conclude.specs.Logic.{truth_type, equal}
use Rattle.fp_conclude.specs.Hypotheses.{member, union, without, all_replaced, all_retyped_terms, occurs_in_any}
use Rattle.fp_conclude.specs.Checks.{AreTerms, AreTypesOf}
use Rattle.fp_kernel.specs.Definitions.{Def, new_constant, new_type}
use Rattle.fp_kernel.specs.Start.{signature_of, abs_rep, rep_abs}
use Rattle.fp_conclude.specs.Axioms.{axioms, connectives}

-- it is one of the list
pub data IsIn {A : Type 0} : A → List A → Type 0 where
  first : {x : A} {xs : List A} → IsIn x (x ∷ xs)
  later : {x y : A} {xs : List A} → IsIn x xs → IsIn x (y ∷ xs)

abbrev pub IsFormula : Signature → Tm → Type 0
IsFormula signature t = IsWellTyped signature t truth_type

-- each of them is a formula
abbrev pub AreFormulas : Signature → List Tm → Type 0
AreFormulas signature [] = Unit {0}
AreFormulas signature (t ∷ ts) = IsFormula signature t × AreFormulas signature ts

-- `Derives defs promises hyps p`: the ten rules, the axioms, the connectives' definitions, what the definitions and the promises say;
-- hypotheses count as a set, and all terms are well typed over the signature of the definitions
pub data Derives (defs : List Def) (promises : List (ℕ × Tm)) : List Tm → Tm → Type 0 where
  refl : (s : Typ) (t : Tm) → IsWellTyped (signature_of defs) t s → Derives defs promises [] (equal s t t)
  trans : {hyps more : List Tm} {s : Typ} {t u v : Tm} → Derives defs promises hyps (equal s t u) → Derives defs promises more (equal s u v) →
      Derives defs promises (union hyps more) (equal s t v)
  mk_comb : {hyps more : List Tm} {s r : Typ} {f g x y : Tm} → Derives defs promises hyps (equal (function_type s r) f g) → Derives defs promises more (equal s x y) →
      Derives defs promises (union hyps more) (equal r (app f x) (app g y))
  lam : {hyps : List Tm} {s : Typ} {t u : Tm} (name : List ℕ) (ty : Typ) → IsType (signature_of defs) ty → occurs_in_any name ty hyps ≡ false →
      Derives defs promises hyps (equal s t u) → Derives defs promises hyps (equal (function_type ty s) (abs ty (closed 0 name ty t)) (abs ty (closed 0 name ty u)))
  beta : (s ty : Typ) (body arg : Tm) → IsWellTyped (signature_of defs) (app (abs ty body) arg) s →
      Derives defs promises [] (equal s (app (abs ty body) arg) (opened 0 arg body))
  assume : (t : Tm) → IsFormula (signature_of defs) t → Derives defs promises (t ∷ []) t
  eq_mp : {hyps more : List Tm} {p q : Tm} → Derives defs promises hyps (equal truth_type p q) → Derives defs promises more p → Derives defs promises (union hyps more) q
  antisym : {hyps more : List Tm} {p q : Tm} → Derives defs promises hyps p → Derives defs promises more q →
      Derives defs promises (union (without q hyps) (without p more)) (equal truth_type p q)
  inst : {hyps : List Tm} {p : Tm} (pairs : List (List ℕ × Typ × Tm)) → AreTerms (signature_of defs) pairs → Derives defs promises hyps p →
      Derives defs promises (all_replaced pairs hyps) (replaced pairs p)
  inst_ty : {hyps : List Tm} {p : Tm} (pairs : List (List ℕ × Typ)) → AreTypesOf (signature_of defs) pairs → Derives defs promises hyps p →
      Derives defs promises (all_retyped_terms pairs hyps) (retyped_term pairs p)
  axiom_of : {p : Tm} → IsIn p axioms → Derives defs promises [] p
  connective_of : {p : Tm} → IsIn p connectives → Derives defs promises [] p
  constant_of : {name : List ℕ} {s : Typ} {t : Tm} → IsIn (new_constant name s t) defs → IsFormula (signature_of defs) (equal s (constant name s) t) →
      Derives defs promises [] (equal s (constant name s) t)
  abs_rep_of : {name abstract represent : List ℕ} {params : List (List ℕ)} {predicate inhabitant : Tm} → IsIn (new_type name params predicate inhabitant abstract represent) defs →
      IsFormula (signature_of defs) (abs_rep name params predicate abstract represent) → Derives defs promises [] (abs_rep name params predicate abstract represent)
  rep_abs_of : {name abstract represent : List ℕ} {params : List (List ℕ)} {predicate inhabitant : Tm} → IsIn (new_type name params predicate inhabitant abstract represent) defs →
      IsFormula (signature_of defs) (rep_abs name params predicate abstract represent) → Derives defs promises [] (rep_abs name params predicate abstract represent)
  promise_of : {number : ℕ} {p : Tm} → IsIn (number, p) promises → IsFormula (signature_of defs) p → Derives defs promises [] p
  as_set : {hyps more : List Tm} {p : Tm} → ((t : Tm) → member t hyps ≡ member t more) → Derives defs promises hyps p → Derives defs promises more p
