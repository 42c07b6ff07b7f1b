use Rattle.std.proofs.Common.{◌∙◌, refl, ap}
use Rattle.fp_term.specs.Terms.{Tm, app, abs}
use Rattle.fp_conclude.specs.Logic.{truth_type}
use Rattle.fp_kernel.specs.Definitions.{whole}
use Rattle.fp_kernel.specs.Theorems.{Theorem, by_one}
use Rattle.fp_logic.proofs.Given.{Reduced, known_at, known_redex, known_typed}
use Rattle.fp_quant.proofs.Universals.{concl_made}
use Rattle.fp_quant.proofs.universal.specialized.Goals as goal

pub applied_to-requires-clause-shape : goal.applied_to-requires-clause-shape
applied_to-requires-clause-shape c = rw c.in_ok-predicate.ensures c.requires.shape

pub beta_known-requires-clause-redex : goal.beta_known-requires-clause-redex
beta_known-requires-clause-redex c =
    let t = app (abs c.args.ty.now c.args.body.now) c.args.term.now in
    let made = c.in_ok-applied.ensures ∙ ap (λ (x : Tm). by_one c.args.defs.now c.args.a.now (app x c.args.term.now)) c.in_ok-predicate.ensures in
    let e = c.concl.ensures.value ∙ ap (λ (x : Theorem). x.concl) made in
    known_redex c.concl.result.now t e refl

pub beta_known-requires-clause-typed : goal.beta_known-requires-clause-typed
beta_known-requires-clause-typed c =
    let t = app (abs c.args.ty.now c.args.body.now) c.args.term.now in
    let made = c.in_ok-applied.ensures ∙ ap (λ (x : Tm). by_one c.args.defs.now c.args.a.now (app x c.args.term.now)) c.in_ok-predicate.ensures in
    let e = c.concl.ensures.value ∙ ap (λ (x : Theorem). x.concl) made in
    known_typed c.args.defs.now c.concl.result.now t truth_type e (concl_made c.args.defs.now c.in_ok-applied.applied c.args.a.now t made c.concl.ensures.derived)

pub convert-requires : goal.convert-requires
convert-requires c =
    let t = app (abs c.args.ty.now c.args.body.now) c.args.term.now in
    let made = c.in_ok-applied.ensures ∙ ap (λ (x : Tm). by_one c.args.defs.now c.args.a.now (app x c.args.term.now)) c.in_ok-predicate.ensures in
    let e = c.concl.ensures.value ∙ ap (λ (x : Theorem). x.concl) made in
    let step = known_at c.in_ok-step.step (Reduced c.args.defs.now) c.concl.result.now t truth_type e (concl_made c.args.defs.now c.in_ok-applied.applied c.args.a.now t made c.concl.ensures.derived).typed c.in_ok-step.ensures in
    rw (step, made) (refl, whole, refl)

pub returns : goal.returns
returns c =
    let t = app (abs c.args.ty.now c.args.body.now) c.args.term.now in
    let made = c.in_ok-applied.ensures ∙ ap (λ (x : Tm). by_one c.args.defs.now c.args.a.now (app x c.args.term.now)) c.in_ok-predicate.ensures in
    let e = c.concl.ensures.value ∙ ap (λ (x : Theorem). x.concl) made in
    let step = known_at c.in_ok-step.step (Reduced c.args.defs.now) c.concl.result.now t truth_type e (concl_made c.args.defs.now c.in_ok-applied.applied c.args.a.now t made c.concl.ensures.derived).typed c.in_ok-step.ensures in
    rw (step, made) at c.convert.ensures
