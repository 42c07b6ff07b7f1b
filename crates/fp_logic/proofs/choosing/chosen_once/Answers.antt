use Rattle.std.proofs.Common.{◌≡◌, ◌∙◌, refl, subst}
use Rattle.std.specs.Prelude.{IfOk}
use Rattle.fp_term.specs.Terms.{Tm, app}
use Rattle.fp_conclude.specs.Logic.{truth_type, predicate_type}
use Rattle.fp_kernel.specs.Theorems.{plain}
use Rattle.fp_forms.specs.Schemas.{p_variable, chooser}
use Rattle.fp_logic.proofs.Given.{Reduced, at_known, known_redex, known_typed, same_app}
use Rattle.fp_logic.proofs.Choosers.{once_typed, once_reduced}
use Rattle.fp_logic.proofs.choosing.chosen_once.Goals as goal

pub beta_known-requires-clause-redex : goal.beta_known-requires-clause-redex
beta_known-requires-clause-redex c = known_redex c.in_ok-redex.redex (app (chooser c.args.first) p_variable) (c.in_ok-redex.ensures ∙ same_app c.args.by.now (chooser c.args.first) c.in_ok-term.term p_variable c.requires c.in_ok-term.ensures) refl

pub beta_known-requires-clause-typed : goal.beta_known-requires-clause-typed
beta_known-requires-clause-typed c = known_typed c.args.defs.now c.in_ok-redex.redex (app (chooser c.args.first) p_variable) (predicate_type truth_type) (c.in_ok-redex.ensures ∙ same_app c.args.by.now (chooser c.args.first) c.in_ok-term.term p_variable c.requires c.in_ok-term.ensures) (once_typed c.args.defs.now c.args.first)

pub returns : goal.returns
returns c =
    let e = c.in_ok-redex.ensures ∙ same_app c.args.by.now (chooser c.args.first) c.in_ok-term.term p_variable c.requires c.in_ok-term.ensures in
    subst (λ (x : Tm). IfOk c.beta_known.result (λ th. th ≡ plain c.args.defs.now x)) (once_reduced c.args.first) (at_known c.beta_known.result (Reduced c.args.defs.now) c.in_ok-redex.redex (app (chooser c.args.first) p_variable) (predicate_type truth_type) e (once_typed c.args.defs.now c.args.first).typed c.beta_known.ensures)
