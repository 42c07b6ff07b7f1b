-- The signature of a conservative list of definitions is sound.
use Rattle.std.proofs.Common.{◌≡◌, ℕ, List, [], ◌∷◌, ◌++◌, refl}
use Rattle.std.specs.Prelude.{Some}
use Rattle.std.specs.Str.{bytes_eq}
use Rattle.std.proofs.lemmas.Option.{none-some, same_Some}
use Rattle.fp_term.specs.declared.signature.Signature.{Signature}
use Rattle.fp_term.specs.Types.{Typ, found_type}
use Rattle.fp_term.specs.Signatures.{IsType}
use Rattle.fp_term.proofs.Choices.{chosen}
use Rattle.fp_term.proofs.Typed.{typed_over}
use Rattle.fp_conclude.specs.Checks.{AreTypesOf}
use Rattle.fp_conclude.proofs.Checked.{are_types}
use Rattle.fp_kernel.specs.Definitions.{Def, new_constant, new_type}
use Rattle.fp_kernel.specs.Start.{signature_of, constants_of}
use Rattle.fp_kernel.specs.Conservative.{Extends, IsConservative}
use Rattle.fp_kernel.proofs.Growing.{Grows, one_more, type_grows}
use Rattle.fp_kernel.proofs.Formulas.{fun_is, formula_of}
use Rattle.fp_kernel.proofs.NewTypes.{abs_rep_derived}
use Rattle.fp_theory.specs.Sound.{IsSoundSignature}

grow : (old new : Signature) → Grows old new → (pairs : List (List ℕ × Typ)) → AreTypesOf old pairs → AreTypesOf new pairs
grow old new g [] h = tt
grow old new g (p ∷ pairs) h = (type_grows old new g p.1 h.0, grow old new g pairs h.1)

both : (s : Signature) (ps qs : List (List ℕ × Typ)) → AreTypesOf s ps → AreTypesOf s qs → AreTypesOf s (ps ++ qs)
both s [] qs h k = k
both s (p ∷ ps) qs h k = (h.0, both s ps qs h.1 k)

found_is : (s : Signature) (pairs : List (List ℕ × Typ)) → AreTypesOf s pairs → (a : List ℕ) (t : Typ) → found_type a pairs ≡ Some t → IsType s t
found_is s [] h a t e = absurd (none-some t e)
found_is s (p ∷ pairs) h a t e = chosen (bytes_eq p.0 a) _ _ _ (IsType s t) (λ _ f. rw (← same_Some p.1 t f) h.0) (λ _ f. found_is s pairs h.1 a t f) e

added : (older : List Def) (d : Def) → Extends older d → AreTypesOf (signature_of (d ∷ older)) (constants_of d)
added older (new_constant name type body) h = (
  type_grows (signature_of older) (signature_of (new_constant name type body ∷ older)) (one_more (new_constant name type body) older) type
      (typed_over (signature_of older) (fun_is older) body type h.typed.over h.typed.typed),
  tt,
)
added older (new_type name params predicate inhabitant abstract represent) h =
    let f = formula_of (abs_rep_derived older name params predicate inhabitant abstract represent h) in
    (f.over.0.1.0.1, (f.over.0.1.1.0.1, tt))

all : (defs : List Def) → IsConservative defs → AreTypesOf (signature_of defs) (signature_of defs).consts
all [] h = are_types (signature_of []) (signature_of []).consts refl
all (d ∷ older) h = both (signature_of (d ∷ older)) (signature_of older).consts (constants_of d)
    (grow (signature_of older) (signature_of (d ∷ older)) (one_more d older) (signature_of older).consts (all older h.1)) (added older d h.0)

pub sound : (defs : List Def) → IsConservative defs → IsSoundSignature (signature_of defs)
sound defs h = record { functions = fun_is defs; declared = found_is (signature_of defs) (signature_of defs).consts (all defs h) }
