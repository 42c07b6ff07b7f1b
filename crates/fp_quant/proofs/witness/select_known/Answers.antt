use Rattle.std.proofs.Common.{◌∙◌, refl, ap}
use Rattle.fp_term.specs.Terms.{Tm, app}
use Rattle.fp_conclude.specs.Logic.{truth_type, select}
use Rattle.fp_kernel.specs.Definitions.{whole}
use Rattle.fp_kernel.specs.Theorems.{Theorem}
use Rattle.fp_logic.proofs.Given.{Reduced, known_at, known_redex, known_typed}
use Rattle.fp_forms.specs.Existence.{at_choice}
use Rattle.fp_quant.proofs.Existing.{at_choice_formula}
use Rattle.fp_quant.proofs.witness.select_known.Goals as goal

pub held_at_choice-requires : goal.held_at_choice-requires
held_at_choice-requires c = c.requires.existence

pub beta_known-requires-clause-redex : goal.beta_known-requires-clause-redex
beta_known-requires-clause-redex c =
    known_redex c.concl.result.now (at_choice c.args.ty.now c.args.predicate.now) (c.concl.ensures.value ∙ ap (λ (x : Theorem). x.concl) c.in_ok-held.ensures)
    (ap (λ (f : Tm). app f (select c.args.ty.now c.args.predicate.now)) c.requires.abstraction)

pub beta_known-requires-clause-typed : goal.beta_known-requires-clause-typed
beta_known-requires-clause-typed c =
    known_typed c.args.defs.now c.concl.result.now (at_choice c.args.ty.now c.args.predicate.now) truth_type (c.concl.ensures.value ∙ ap (λ (x : Theorem). x.concl) c.in_ok-held.ensures)
    (at_choice_formula c.args.defs.now c.args.ty.now c.args.predicate.now c.requires.existence.2)

pub convert-requires : goal.convert-requires
convert-requires c =
    let is = c.concl.ensures.value ∙ ap (λ (x : Theorem). x.concl) c.in_ok-held.ensures in
    let typed = (at_choice_formula c.args.defs.now c.args.ty.now c.args.predicate.now c.requires.existence.2).typed in
    rw (known_at c.in_ok-equation.equation (Reduced c.args.defs.now) c.concl.result.now (at_choice c.args.ty.now c.args.predicate.now) truth_type is typed c.in_ok-equation.ensures, c.in_ok-held.ensures)
    (refl, whole, refl)

pub returns : goal.returns
returns c =
    let is = c.concl.ensures.value ∙ ap (λ (x : Theorem). x.concl) c.in_ok-held.ensures in
    let typed = (at_choice_formula c.args.defs.now c.args.ty.now c.args.predicate.now c.requires.existence.2).typed in
    rw (known_at c.in_ok-equation.equation (Reduced c.args.defs.now) c.concl.result.now (at_choice c.args.ty.now c.args.predicate.now) truth_type is typed c.in_ok-equation.ensures, c.in_ok-held.ensures)
    at c.convert.ensures
