-- What a chooser gives, in each of its two cases.
use Rattle.std.proofs.Common.{◌≡◌, Bool, true, false, List, refl, ap, ◌∙◌}
use Rattle.fp_term.specs.Terms.{Tm, app, opened, replaced}
use Rattle.fp_term.specs.Signatures.{IsWellTyped}
use Rattle.fp_conclude.specs.Logic.{truth_type, predicate_type, binary_type, equal, true_constant}
use Rattle.fp_kernel.specs.Definitions.{Def, whole}
use Rattle.fp_kernel.specs.Start.{signature_of}
use Rattle.fp_kernel.specs.Theorems.{Theorem, plain, by_one}
use Rattle.fp_conclude.specs.Shapes.{function_in, argument_in, body_in}
use Rattle.fp_kernel.specs.Known.{CanMkComb}
use Rattle.fp_logic.specs.Steps.{choice_schema, CanConvert, CanUnfold, unfolded}
use Rattle.fp_forms.specs.Schemas.{p_variable, q_variable, in_place, itself, both_true, chooser, chosen, chosen_from, choice}
use Rattle.fp_forms.specs.Lemmas.{statement_of}
use Rattle.fp_forms.specs.declared.lemma.Lemma.TheVariants.{Choice}
use Rattle.fp_logic.proofs.Concrete.{at_start}

pub chooser_typed : (defs : List Def) (b : Bool) → IsWellTyped (signature_of defs) (chooser b) (binary_type truth_type truth_type)
chooser_typed defs true = at_start defs (chooser true) (binary_type truth_type truth_type) refl refl
chooser_typed defs false = at_start defs (chooser false) (binary_type truth_type truth_type) refl refl

pub once_typed : (defs : List Def) (b : Bool) → IsWellTyped (signature_of defs) (app (chooser b) p_variable) (predicate_type truth_type)
once_typed defs true = at_start defs (app (chooser true) p_variable) (predicate_type truth_type) refl refl
once_typed defs false = at_start defs (app (chooser false) p_variable) (predicate_type truth_type) refl refl

pub choice_typed : (defs : List Def) (b : Bool) → IsWellTyped (signature_of defs) (choice b p_variable q_variable) truth_type
choice_typed defs true = at_start defs (choice true p_variable q_variable) truth_type refl refl
choice_typed defs false = at_start defs (choice false p_variable q_variable) truth_type refl refl

abbrev once_of : Bool → Tm
once_of b = app (chooser b) p_variable

pub once_reduced : (b : Bool) → equal (predicate_type truth_type) (once_of b) (opened 0 (argument_in (once_of b)) (body_in (function_in (once_of b)))) ≡ chosen_from b
once_reduced true = refl
once_reduced false = refl

pub twice_asks : (defs : List Def) (b : Bool) → CanUnfold defs (plain defs (chosen_from b)) (plain defs (itself q_variable))
twice_asks defs true = ((whole, whole, refl, refl), refl)
twice_asks defs false = ((whole, whole, refl, refl), refl)

pub twice_is : (b : Bool) → unfolded (chosen_from b) (itself q_variable) ≡ equal truth_type (app (app (chooser b) p_variable) q_variable) (chosen b p_variable q_variable)
twice_is true = refl
twice_is false = refl

pub choice_at : (b : Bool) (l r : Tm) → replaced (in_place l r) (equal truth_type (choice b p_variable q_variable) (chosen b p_variable q_variable)) ≡ equal truth_type (choice b l r) (chosen b l r)
choice_at true l r = refl
choice_at false l r = refl

pub same_choice : (b : Bool) (t : Tm) → chosen b t t ≡ t
same_choice true t = refl
same_choice false t = refl

-- the choices of two applications
pub choices_ask : (defs : List Def) (a : Theorem) (b : Bool) (l r : Tm) → CanMkComb defs (by_one defs a (both_true l r)) (plain defs (equal (binary_type truth_type truth_type) (chooser b) (chooser b)))
choices_ask defs a b l r = (whole, whole, refl, refl)

pub choice_from : (defs : List Def) (schema : Theorem) (b : Bool) (l r : Tm) → schema ≡ choice_schema defs b → plain defs (replaced (in_place l r) schema.concl) ≡ plain defs (equal truth_type (choice b l r) (chosen b l r))
choice_from defs schema b l r e = ap (λ (x : Theorem). plain defs (replaced (in_place l r) x.concl)) e ∙ ap (plain defs) (choice_at b l r)

-- that the choices from two formulas and from `T` twice are equal says the chosen one
abbrev Choosing : Bool → Tm → Tm → Tm
Choosing b l r = equal truth_type (equal truth_type (choice b l r) (choice b true_constant true_constant)) (chosen b l r)

pub choice_lemma_at : (b : Bool) (l r : Tm) → replaced (in_place l r) (statement_of (Choice b)) ≡ Choosing b l r
choice_lemma_at true l r = refl
choice_lemma_at false l r = refl

pub choice_asks : (defs : List Def) (a : Theorem) (b : Bool) (l r : Tm) →
    CanConvert defs (plain defs (Choosing b l r)) (by_one defs a (equal truth_type (choice b l r) (choice b true_constant true_constant)))
choice_asks defs a b l r = (refl, whole, refl)

pub chosen_typed : (defs : List Def) (b : Bool) → IsWellTyped (signature_of defs) (chosen b p_variable q_variable) truth_type
chosen_typed defs true = at_start defs p_variable truth_type refl refl
chosen_typed defs false = at_start defs q_variable truth_type refl refl
