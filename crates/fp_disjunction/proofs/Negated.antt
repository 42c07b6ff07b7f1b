-- A premise of a form of negations has the form's shape.
use Rattle.std.proofs.Common.{◌≡◌, ◌∙◌, true, List, [], refl, sym, ap, subst}
use Rattle.std.specs.Prelude.{Some, codes}
use Rattle.std.proofs.lemmas.Option.{none-some, same_Some}
use Rattle.fp_term.specs.Terms.{Tm, app, term_eq}
use Rattle.fp_term.specs.declared.signature.Signature.{Signature}
use Rattle.fp_term.specs.Typing.{function_type}
use Rattle.fp_term.proofs.Typed.{app_parts, same_function}
use Rattle.fp_term.proofs.Choices.{chosen}
use Rattle.fp_term.proofs.Equal.{term_eq-decides}
use Rattle.fp_conclude.specs.Logic.{truth_type, predicate_type, false_constant, negation_constant}
use Rattle.fp_kernel.specs.Definitions.{Def, Within}
use Rattle.fp_kernel.specs.Start.{signature_of}
use Rattle.fp_kernel.specs.Derivability.{IsFormula}
use Rattle.fp_kernel.specs.Theorems.{Theorem, IsTheorem}
use Rattle.fp_disjunction.specs.Forms.{negated}
use Rattle.fp_logic.specs.Steps.{IsJoined}
use Rattle.fp_disjunction.specs.Steps.{IsNegation}
use Rattle.fp_logic.proofs.Turning.{lifted}

pub negated_shape : (t p : Tm) → negated t ≡ Some p → t ≡ app negation_constant p
negated_shape (app c x) p e =
    chosen (term_eq c negation_constant) _ _ _ (app c x ≡ app negation_constant p)
    (λ is f. rw ((term_eq-decides c negation_constant).0 is, same_Some x p f) refl)
    (λ _ f. absurd (none-some p f)) e
negated_shape _ p e = absurd (none-some p e)

-- what is negated is a formula
negated_formula : (g : Signature) (p : Tm) → IsFormula g (app negation_constant p) → IsFormula g p
negated_formula g p h =
    let b = app_parts [] negation_constant p truth_type h.typed in
    let same = same_function truth_type truth_type b.0 truth_type (same_Some (predicate_type truth_type) (function_type b.0 truth_type) b.1) in
    record { typed = b.2 ∙ ap Some (sym same.0); over = h.over.1 }

pub negation_of : (defs : List Def) (a : Theorem) (p : Tm) → Within a.defs defs → IsTheorem a → negated a.concl ≡ Some p → IsNegation defs a p
negation_of defs a p w d e =
    let is = negated_shape a.concl p e in
    (w, is, negated_formula (signature_of defs) p (subst (IsFormula (signature_of defs)) is (lifted defs a w d)))

-- an implication of `F`
pub implies_false : (defs : List Def) (a : Theorem) (l r : Tm) → IsJoined (codes "imp") defs a l r → term_eq r false_constant ≡ true → IsJoined (codes "imp") defs a l false_constant
implies_false defs a l r h e = subst (IsJoined (codes "imp") defs a l) ((term_eq-decides r false_constant).0 e) h
