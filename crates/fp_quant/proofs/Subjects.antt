-- What a quantifier is applied to is a predicate on a type of the signature.
use Rattle.std.proofs.Common.{◌≡◌, ◌∙◌, ℕ, List, [], refl, sym, ap, subst}
use Rattle.std.specs.Prelude.{Some}
use Rattle.std.proofs.lemmas.Option.{same_Some}
use Rattle.fp_term.specs.Names.{function}
use Rattle.fp_term.specs.Types.{Typ}
use Rattle.fp_term.specs.Terms.{Tm, app, abs}
use Rattle.fp_term.specs.Typing.{function_type}
use Rattle.fp_term.specs.Signatures.{IsType, IsWellTyped}
use Rattle.fp_term.specs.declared.signature.Signature.{Signature}
use Rattle.fp_term.proofs.Typed.{app_parts, abs_parts, same_function, typed_over}
use Rattle.fp_conclude.specs.Logic.{truth_type, predicate_type, quantifier_type, quantifier}
use Rattle.fp_kernel.specs.Definitions.{Def, Within}
use Rattle.fp_kernel.specs.Start.{signature_of}
use Rattle.fp_kernel.specs.Derivability.{IsFormula}
use Rattle.fp_kernel.specs.Theorems.{Theorem, IsTheorem}
use Rattle.fp_kernel.proofs.Growing.{from_start}
use Rattle.fp_logic.proofs.Turning.{lifted}

-- the type of a well-typed term is one of the signature, and so are the two types of a function
pub from_known : (defs : List Def) (s r : Typ) (t : Tm) → IsWellTyped (signature_of defs) t (function_type s r) → IsType (signature_of defs) s
from_known defs s r t h = (typed_over (signature_of defs) ((from_start defs).types function 2 refl) t (function_type s r) h.over h.typed).1.0

pub to_known : (defs : List Def) (s r : Typ) (t : Tm) → IsWellTyped (signature_of defs) t (function_type s r) → IsType (signature_of defs) r
to_known defs s r t h = (typed_over (signature_of defs) ((from_start defs).types function 2 refl) t (function_type s r) h.over h.typed).1.1.0

predicate_typed : (g : Signature) (name : List ℕ) (s : Typ) (p : Tm) → IsFormula g (app (quantifier name s) p) → IsWellTyped g p (predicate_type s)
predicate_typed g name s p h =
    let b = app_parts [] (quantifier name s) p truth_type h.typed in
    let same = same_function (predicate_type s) truth_type b.0 truth_type (same_Some (quantifier_type s) (function_type b.0 truth_type) b.1) in
    record { typed = b.2 ∙ ap Some (sym same.0); over = h.over.1 }

pub subject_typed : (name : List ℕ) (defs : List Def) (a : Theorem) (s : Typ) (p : Tm) → Within a.defs defs → IsTheorem a → a.concl ≡ app (quantifier name s) p →
    IsWellTyped (signature_of defs) p (predicate_type s)
subject_typed name defs a s p w d e = predicate_typed (signature_of defs) name s p (subst (IsFormula (signature_of defs)) e (lifted defs a w d))

-- an abstraction that is quantified over a type is one over it
binder_is : (g : Signature) (s u : Typ) (x : Tm) → IsWellTyped g (abs u x) (predicate_type s) → u ≡ s
binder_is g s u x h =
    let b = abs_parts [] u x (predicate_type s) h.typed in
    (same_function u b.0 s truth_type b.2).0

pub quantified_abstraction : (name : List ℕ) (defs : List Def) (a : Theorem) (s u : Typ) (p x : Tm) → Within a.defs defs → IsTheorem a → a.concl ≡ app (quantifier name s) p → p ≡ abs u x →
    a.concl ≡ app (quantifier name s) (abs s x)
quantified_abstraction name defs a s u p x w d e f =
    let h = subst (λ (t : Tm). IsWellTyped (signature_of defs) t (predicate_type s)) f (subject_typed name defs a s p w d e) in
    e ∙ ap (app (quantifier name s)) (f ∙ ap (λ (v : Typ). abs v x) (binder_is (signature_of defs) s u x h))
