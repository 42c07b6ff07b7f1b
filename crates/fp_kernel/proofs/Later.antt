-- What is derivable stays so over a longer list of definitions, with more promises, and with what its promises rest on.
use Rattle.std.proofs.Common.{ℕ, List, [], ◌∷◌}
use Rattle.fp_term.specs.declared.signature.Signature.{Signature}
use Rattle.fp_term.specs.Types.{Typ}
use Rattle.fp_term.specs.Terms.{Tm}
use Rattle.fp_term.specs.Signatures.{IsWellTyped}
use Rattle.fp_conclude.specs.Checks.{AreTerms, AreTypesOf}
use Rattle.fp_kernel.specs.Definitions.{Def, Within, whole, newer}
use Rattle.fp_kernel.specs.Start.{signature_of}
use Rattle.fp_kernel.specs.Derivability.{IsIn, first, later, IsFormula}
use Rattle.fp_kernel.specs.Derivability.{Derives, refl, trans, mk_comb, lam, beta, assume, eq_mp, antisym, inst, inst_ty, axiom_of, connective_of, constant_of, abs_rep_of, rep_abs_of, promise_of, as_set}
use Rattle.fp_kernel.proofs.Growing.{Grows, one_more, type_grows, over_grows}

-- each of the one list is one of the other
abbrev pub Among : {A : Type 0} → List A → List A → Type 0
Among {A} old new = (x : A) → IsIn x old → IsIn x new

module _ (old new : Signature) (g : Grows old new) where
  typed_grows : (t : Tm) (s : Typ) → IsWellTyped old t s → IsWellTyped new t s
  typed_grows t s h = record { typed = h.typed; over = over_grows old new g t h.over }

  terms_grow : (pairs : List (List ℕ × Typ × Tm)) → AreTerms old pairs → AreTerms new pairs
  terms_grow [] h = tt
  terms_grow (pair ∷ rest) h = (typed_grows pair.2 pair.1 h.0, terms_grow rest h.1)

  types_grow : (pairs : List (List ℕ × Typ)) → AreTypesOf old pairs → AreTypesOf new pairs
  types_grow [] h = tt
  types_grow (pair ∷ rest) h = (type_grows old new g pair.1 h.0, types_grow rest h.1)

-- each promise of the one list is derivable from the other
abbrev pub AreMet : List Def → List (ℕ × Tm) → List (ℕ × Tm) → Type 0
AreMet defs promises more = (number : ℕ) (p : Tm) → IsIn (number, p) promises → IsFormula (signature_of defs) p → Derives defs more [] p

module _ {old new : List Def} {promises more : List (ℕ × Tm)} (g : Grows (signature_of old) (signature_of new)) (i : Among old new) (j : AreMet new promises more) where
  pub carried : {hyps : List Tm} {p : Tm} → Derives old promises hyps p → Derives new more hyps p
  carried (refl s t h) = refl s t (typed_grows (signature_of old) (signature_of new) g t s h)
  carried (trans d e) = trans (carried d) (carried e)
  carried (mk_comb d e) = mk_comb (carried d) (carried e)
  carried (lam name ty h apart d) = lam name ty (type_grows (signature_of old) (signature_of new) g ty h) apart (carried d)
  carried (beta s ty body arg h) = beta s ty body arg (typed_grows (signature_of old) (signature_of new) g _ s h)
  carried (assume t h) = assume t (typed_grows (signature_of old) (signature_of new) g t _ h)
  carried (eq_mp d e) = eq_mp (carried d) (carried e)
  carried (antisym d e) = antisym (carried d) (carried e)
  carried (inst pairs h d) = inst pairs (terms_grow (signature_of old) (signature_of new) g pairs h) (carried d)
  carried (inst_ty pairs h d) = inst_ty pairs (types_grow (signature_of old) (signature_of new) g pairs h) (carried d)
  carried (axiom_of k) = axiom_of k
  carried (connective_of k) = connective_of k
  carried (constant_of k h) = constant_of (i _ k) (typed_grows (signature_of old) (signature_of new) g _ _ h)
  carried (abs_rep_of k h) = abs_rep_of (i _ k) (typed_grows (signature_of old) (signature_of new) g _ _ h)
  carried (rep_abs_of k h) = rep_abs_of (i _ k) (typed_grows (signature_of old) (signature_of new) g _ _ h)
  carried (promise_of k h) = j _ _ k (typed_grows (signature_of old) (signature_of new) g _ _ h)
  carried (as_set same d) = as_set same (carried d)

all_grow : {old new : List Def} → Within old new → Grows (signature_of old) (signature_of new)
all_grow whole = record { types = λ a n e. e; consts = λ a t e. e }
all_grow (newer {defs = defs} d w) =
    let rest = all_grow w in
    let last = one_more d defs in
    record { types = λ a n e. last.types a n (rest.types a n e); consts = λ a t e. last.consts a t (rest.consts a t e) }

all_there : {old new : List Def} → Within old new → Among old new
all_there whole = λ x i. i
all_there (newer d w) = λ x i. later (all_there w x i)

pub later_all : {old new : List Def} {promises more : List (ℕ × Tm)} {hyps : List Tm} {p : Tm} → Within old new → Among promises more → Derives old promises hyps p → Derives new more hyps p
later_all w j d = carried (all_grow w) (all_there w) (λ number p k h. promise_of (j (number, p) k) h) d

-- with what its promises rest on in place of the promises
pub met_all : {old new : List Def} {promises more : List (ℕ × Tm)} {hyps : List Tm} {p : Tm} → Within old new → AreMet new promises more → Derives old promises hyps p → Derives new more hyps p
met_all w j d = carried (all_grow w) (all_there w) j d
