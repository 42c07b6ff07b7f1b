-- What the forms of `?` ask, once they have accepted their premises, and what they give.
use Rattle.std.proofs.Common.{◌≡◌, ◌∙◌, ℕ, true, false, List, ◌∷◌, refl, sym, ap, subst}
use Rattle.std.specs.Prelude.{Some}
use Rattle.fp_term.specs.Types.{Typ, type_eq}
use Rattle.fp_term.specs.Terms.{Tm, free, abs, term_eq, opened}
use Rattle.fp_term.specs.Signatures.{IsWellTyped}
use Rattle.fp_term.specs.declared.signature.Signature.{Signature}
use Rattle.fp_term.proofs.Equal.{type_eq-decides}
use Rattle.fp_conclude.specs.Logic.{for_some}
use Rattle.fp_conclude.specs.Hypotheses.{without, occurs, occurs_in_any}
use Rattle.fp_conclude.specs.Outcomes.{gives}
use Rattle.fp_kernel.specs.Definitions.{Def, Within}
use Rattle.fp_kernel.specs.Start.{signature_of}
use Rattle.fp_kernel.specs.Theorems.{Theorem, IsTheorem, from_one, by_one}
use Rattle.fp_conclude.specs.Shapes.{argument_in, body_in, IsAbstraction}
use Rattle.fp_forms.specs.Quantified.{existence_parts}
use Rattle.fp_quant.specs.Existential.{witness_type, witnessed, exists_of}
use Rattle.fp_quant.specs.Existence.{IsPredicate, IsExistence}
use Rattle.fp_quant.proofs.Existing.{some_predicate}
use Rattle.fp_quant.proofs.Parted.{existence_shape, existence_at, abstraction_at, body_at, concl_apart, rest_apart, predicate_apart, witness_typed}

-- `choose`
module _ (defs : List Def) (name : List ℕ) (ty : Typ) (a b : Theorem) (s : Typ) (body p : Tm) (w : Within a.defs defs) (d : IsTheorem a)
    (is : existence_parts a.concl ≡ Some (s, body)) (at : p ≡ argument_in a.concl) where
  pub choose_existence : type_eq ty s ≡ true → IsExistence defs a ty p
  choose_existence same = subst (λ (x : Typ). IsExistence defs a x p) (sym ((type_eq-decides ty s).0 same)) (existence_at defs a s body p w d is at)

  pub choose_abstraction : IsAbstraction p
  choose_abstraction = abstraction_at defs a s body p w d is at

  module _ (apart : occurs_in_any name ty (b.concl ∷ a.concl ∷ without (opened 0 (free name ty) body) b.hyps) ≡ false) where
    pub choose_rest : occurs_in_any name ty (without (opened 0 (free name ty) (body_in p)) b.hyps) ≡ false
    choose_rest =
        subst (λ (x : Tm). occurs_in_any name ty (without (opened 0 (free name ty) x) b.hyps) ≡ false) (sym (body_at defs a s body p w d is at))
        (rest_apart name ty p a b.concl (without (opened 0 (free name ty) body) b.hyps) apart)

    pub choose_predicate : occurs name ty p ≡ false
    choose_predicate = predicate_apart name ty p a b.concl (without (opened 0 (free name ty) body) b.hyps) apart s (existence_at defs a s body p w d is at).1

    pub choose_concl : occurs name ty b.concl ≡ false
    choose_concl = concl_apart name ty p a b.concl (without (opened 0 (free name ty) body) b.hyps) apart

-- `exists`
module _ (g : Signature) (t u : Tm) (s ty : Typ) (body : Tm) (checked : witness_type g t u ≡ gives s) (is : existence_parts t ≡ Some (ty, body)) (same : type_eq s ty ≡ true) where
  pub exists_typed : IsWellTyped g u ty
  exists_typed = subst (IsWellTyped g u) ((type_eq-decides s ty).0 same) (witness_typed g t u s checked).1

pub exists_predicate : (defs : List Def) (t u : Tm) (s ty : Typ) (body : Tm) → witness_type (signature_of defs) t u ≡ gives s → existence_parts t ≡ Some (ty, body) → IsPredicate defs ty (abs ty body)
exists_predicate defs t u s ty body checked is =
    let h = (witness_typed (signature_of defs) t u s checked).0 in
    some_predicate defs ty body h.0 (subst (λ (x : Tm). IsWellTyped (signature_of defs) x h.0) (existence_shape t (ty, body) is) h.1)

pub witnessed_gives : (t u : Tm) (s ty : Typ) (body p : Tm) → existence_parts t ≡ Some (ty, body) → type_eq s ty ≡ true → term_eq (opened 0 u body) p ≡ true → witnessed t u s p (ty, body) ≡ gives (for_some ty body)
witnessed_gives t u s ty body p is same e = rw (e, same) (ap gives (existence_shape t (ty, body) is))

pub witnessed_is : (defs : List Def) (a th : Theorem) (t u : Tm) (s ty : Typ) (body : Tm) → existence_parts t ≡ Some (ty, body) → type_eq s ty ≡ true →
    term_eq (opened 0 u body) a.concl ≡ true → th ≡ by_one defs a (for_some ty body) → from_one defs a a.hyps (witnessed t u s a.concl (ty, body)) ≡ gives th
witnessed_is defs a th t u s ty body is same e f =
    ap (λ o. from_one defs a a.hyps o) (witnessed_gives t u s ty body a.concl is same e) ∙ ap gives (sym f)

-- the whole is that, where nothing is refused before
pub witnessed_is_exists : (g : Signature) (t u a : Tm) (s : Typ) (p : Typ × Tm) → witness_type g t u ≡ gives s → existence_parts t ≡ Some p → witnessed t u s a p ≡ exists_of g t u a
witnessed_is_exists g t u a s p e f = rw (e, f) refl
