-- A signature stays sound with one constant more.
use Rattle.std.proofs.Common.{◌≡◌, ℕ, Bool, true, false, cond, List, [], ◌∷◌, ◌++◌, sym, subst}
use Rattle.std.specs.Prelude.{Some, None}
use Rattle.std.specs.Str.{bytes_eq}
use Rattle.std.proofs.lemmas.Option.{same_Some}
use Rattle.fp_term.specs.Types.{Typ, Typs, variable, applied, none, more, found_type}
use Rattle.fp_term.specs.Signatures.{IsType, AreTypes}
use Rattle.fp_term.specs.declared.signature.Signature.{Signature}
use Rattle.fp_infer.specs.Elaborated.{AreTypesIn, IsSound}
use Rattle.fp_typed_terms.specs.SmallSignature.{DeclaresTypes, IsSmall}

-- types depend on the constructors alone
module _ (s r : Signature) (e : s.types ≡ r.types) where
  mutual
    type_alike : (t : Typ) → IsType s t → IsType r t
    type_alike (variable a) h = tt
    type_alike (applied a ts) h = (rw e at h.0, types_alike ts h.1)

    types_alike : (ts : Typs) → AreTypes s ts → AreTypes r ts
    types_alike none h = tt
    types_alike (more t ts) h = (type_alike t h.0, types_alike ts h.1)

-- what is found among more pairs is found before, or the last one
module _ (P : Typ → Type 0) (name : List ℕ) (last : Typ) (has : P last) where
  one_by : (a : List ℕ) (b : Bool) (t : Typ) → cond b (Some last) None ≡ Some t → P t
  one_by a true t e = subst P (same_Some last t e) has
  one_by a false t e = cc

  found_one : (a : List ℕ) (pairs : List (List ℕ × Typ)) → ((t : Typ) → found_type a pairs ≡ Some t → P t) → (t : Typ) → found_type a (pairs ++ (name, last) ∷ []) ≡ Some t → P t
  found_one a [] h t e = one_by a (bytes_eq name a) t e
  found_one a (p ∷ pairs) h t e =
      elim (bytes_eq p.0 a) as (λ b. ((u : Typ) → cond b (Some p.1) (found_type a pairs) ≡ Some u → P u) → cond b (Some p.1) (found_type a (pairs ++ (name, last) ∷ [])) ≡ Some t → P t)
      [ true ↦ λ k f. k t f | false ↦ λ k f. found_one a pairs k t f ] h e

pub declares_one : (s r : Signature) (name : List ℕ) (ty : Typ) → DeclaresTypes s → IsType s ty → r.types ≡ s.types → r.consts ≡ s.consts ++ (name, ty) ∷ [] → DeclaresTypes r
declares_one s r name ty h is types_are consts_are =
    record {
      declared = λ a t e.
          type_alike s r (sym types_are) t (found_one (IsType s) name ty is a s.consts (h.declared a) t (rw consts_are at e));
    }

pub small_sound : (s : Signature) (exact given : List (List ℕ × Typ)) → IsSmall s → AreTypesIn s exact → AreTypesIn s given → IsSound s exact given
small_sound s exact given h of_exact of_given = record { functions = h.functions; declared = h.declares.declared; exact_types = of_exact; given_types = of_given }
