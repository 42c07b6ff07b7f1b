-- A premise that a form accepts has the form's shape.
use Rattle.std.proofs.Common.{◌≡◌, ℕ, true, List, refl, subst}
use Rattle.std.specs.Prelude.{Some}
use Rattle.std.proofs.lemmas.Option.{none-some, same_Some}
use Rattle.fp_term.specs.Types.{Typ, type_eq}
use Rattle.fp_term.specs.Terms.{Tm, free, app, term_eq}
use Rattle.fp_term.proofs.Choices.{chosen}
use Rattle.fp_term.proofs.Equal.{type_eq-decides, term_eq-decides}
use Rattle.fp_term.specs.Signatures.{IsWellTyped}
use Rattle.fp_term.specs.declared.signature.Signature.{Signature}
use Rattle.fp_conclude.specs.Checks.{typed_over}
use Rattle.fp_conclude.specs.Outcomes.{gives}
use Rattle.fp_conclude.proofs.Checked.{well_typed}
use Rattle.fp_conclude.specs.Logic.{equal}
use Rattle.fp_quant.specs.Universal.{applied_to_variable}

-- what is applied to the variable
pub variable_shape : (name : List ℕ) (ty : Typ) (t f : Tm) → applied_to_variable name ty t ≡ Some f → t ≡ app f (free name ty)
variable_shape name ty (app g x) f e =
    chosen (term_eq x (free name ty)) _ _ _ (app g x ≡ app f (free name ty))
    (λ is h. rw ((term_eq-decides x (free name ty)).0 is, same_Some g f h) refl)
    (λ _ h. absurd (none-some f h)) e
variable_shape name ty _ f e = absurd (none-some f e)

pub both_shapes : (name : List ℕ) (ty to : Typ) (a t u f g : Tm) → a ≡ equal to t u → applied_to_variable name ty t ≡ Some f → applied_to_variable name ty u ≡ Some g →
    a ≡ equal to (app f (free name ty)) (app g (free name ty))
both_shapes name ty to a t u f g e h k = rw (e, variable_shape name ty t f h, variable_shape name ty u g k) refl

-- a term of that type
pub accepted_typed : (g : Signature) (t : Tm) (s u : Typ) → typed_over g t ≡ gives s → type_eq s u ≡ true → IsWellTyped g t u
accepted_typed g t s u e f = subst (IsWellTyped g t) ((type_eq-decides s u).0 f) (well_typed g t s e)
