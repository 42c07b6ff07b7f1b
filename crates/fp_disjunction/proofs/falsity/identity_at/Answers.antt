use Rattle.std.proofs.Common.{◌∙◌, refl, ap}
use Rattle.fp_term.specs.Terms.{Tm, app}
use Rattle.fp_conclude.specs.Logic.{truth_type}
use Rattle.fp_forms.specs.Schemas.{identity}
use Rattle.fp_logic.proofs.Given.{Reduced, at_known, known_redex, known_typed}
use Rattle.fp_disjunction.proofs.False.{identity_typed}
use Rattle.fp_disjunction.proofs.falsity.identity_at.Goals as goal

pub beta_known-requires-clause-redex : goal.beta_known-requires-clause-redex
beta_known-requires-clause-redex c = known_redex c.in_ok-redex.redex (app identity c.args.term.now) (c.in_ok-redex.ensures ∙ ap (λ (x : Tm). app x c.args.term.now) c.in_ok-function.ensures) refl

pub beta_known-requires-clause-typed : goal.beta_known-requires-clause-typed
beta_known-requires-clause-typed c = known_typed c.args.defs.now c.in_ok-redex.redex (app identity c.args.term.now) truth_type (c.in_ok-redex.ensures ∙ ap (λ (x : Tm). app x c.args.term.now) c.in_ok-function.ensures) (identity_typed c.args.defs.now c.args.term.now c.requires)

pub returns : goal.returns
returns c = at_known c.beta_known.result (Reduced c.args.defs.now) c.in_ok-redex.redex (app identity c.args.term.now) truth_type (c.in_ok-redex.ensures ∙ ap (λ (x : Tm). app x c.args.term.now) c.in_ok-function.ensures) (identity_typed c.args.defs.now c.args.term.now c.requires).typed c.beta_known.ensures
