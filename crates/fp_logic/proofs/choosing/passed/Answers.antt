use Rattle.std.proofs.Common.{◌∙◌, refl}
use Rattle.fp_conclude.specs.Logic.{truth_type}
use Rattle.fp_forms.specs.Schemas.{p_variable, q_variable, applying, chooser, choice}
use Rattle.fp_logic.proofs.Given.{Reduced, at_known, known_redex, known_typed, same_app}
use Rattle.fp_logic.proofs.Choosers.{choice_typed}
use Rattle.fp_logic.proofs.choosing.passed.Goals as goal

pub beta_known-requires-clause-redex : goal.beta_known-requires-clause-redex
beta_known-requires-clause-redex c = known_redex c.in_ok-redex.redex (choice c.args.first p_variable q_variable) (c.in_ok-redex.ensures ∙ same_app c.in_ok-function.function (applying p_variable q_variable) c.args.by.now (chooser c.args.first) c.in_ok-function.ensures c.requires) refl

pub beta_known-requires-clause-typed : goal.beta_known-requires-clause-typed
beta_known-requires-clause-typed c = known_typed c.args.defs.now c.in_ok-redex.redex (choice c.args.first p_variable q_variable) truth_type (c.in_ok-redex.ensures ∙ same_app c.in_ok-function.function (applying p_variable q_variable) c.args.by.now (chooser c.args.first) c.in_ok-function.ensures c.requires) (choice_typed c.args.defs.now c.args.first)

pub returns : goal.returns
returns c =
    let e = c.in_ok-redex.ensures ∙ same_app c.in_ok-function.function (applying p_variable q_variable) c.args.by.now (chooser c.args.first) c.in_ok-function.ensures c.requires in
    at_known c.beta_known.result (Reduced c.args.defs.now) c.in_ok-redex.redex (choice c.args.first p_variable q_variable) truth_type e (choice_typed c.args.defs.now c.args.first).typed c.beta_known.ensures
