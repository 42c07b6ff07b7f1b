use Rattle.std.proofs.Common.{ap}
use Rattle.fp_term.specs.Terms.{Tm, app}
use Rattle.fp_conclude.specs.Logic.{truth_type}
use Rattle.fp_logic.proofs.Given.{Reduced, at_known, known_redex, known_typed}
use Rattle.fp_quant.proofs.Existing.{at_term}
use Rattle.fp_quant.proofs.witness.applied.Goals as goal

pub beta_known-requires-clause-redex : goal.beta_known-requires-clause-redex
beta_known-requires-clause-redex c = known_redex c.in_ok-redex.redex (app c.args.predicate.now c.args.term.now) c.in_ok-redex.ensures (ap (λ (f : Tm). app f c.args.term.now) c.requires.abstraction)

pub beta_known-requires-clause-typed : goal.beta_known-requires-clause-typed
beta_known-requires-clause-typed c =
    let t = c.requires.typed in
    known_typed c.args.defs.now c.in_ok-redex.redex (app c.args.predicate.now c.args.term.now) truth_type c.in_ok-redex.ensures (at_term c.args.defs.now t.0 c.args.predicate.now c.args.term.now t.1 t.2)

pub returns : goal.returns
returns c =
    let t = c.requires.typed in
    at_known c.beta_known.result (Reduced c.args.defs.now) c.in_ok-redex.redex (app c.args.predicate.now c.args.term.now) truth_type c.in_ok-redex.ensures
    (at_term c.args.defs.now t.0 c.args.predicate.now c.args.term.now t.1 t.2).typed c.beta_known.ensures
