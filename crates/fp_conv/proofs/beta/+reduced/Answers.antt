use Rattle.std.proofs.Common.{◌∙◌, refl, sym, ap, arith}
use Rattle.fp_term.specs.TermView.{seen}
use Rattle.fp_term.specs.Terms.{app, abs}
use Rattle.fp_kernel.specs.Start.{signature_of}
use Rattle.fp_conv.proofs.Rewriting.{body_typed}
use Rattle.fp_conv.proofs.Reduced.{function_typed, parts_smaller, inner_smaller, body_smaller, unreduced_ok, whole_typed, whole_reduces, reduction_of}
use Rattle.fp_conv.proofs.Passed.{stays, contracts, parts_pass, whole_passes, body_passes, same_passes, body_unreduced}
use Rattle.fp_conv.proofs.beta.+reduced.Goals as goal

pub reduced_application-reduced-requires : goal.reduced_application-reduced-requires
reduced_application-reduced-requires t c = (
  omega arith,
  function_typed (signature_of c.args.defs.now) (app c.args.fun.now c.args.arg.now) c.args.fun.now c.args.arg.now refl c.requires,
)

pub reduced_abstraction-reduced-requires : goal.reduced_abstraction-reduced-requires
reduced_abstraction-reduced-requires t c =
    let p = c.in_ok-opening.opening in
    let opened_is = c.in_ok-opening.ensures.opened in (
      omega (arith, body_smaller (abs c.args.ty.now c.args.body.now) p.1 p.0 c.args.ty.now c.args.body.now refl opened_is),
      body_typed (signature_of c.args.defs.now) (abs c.args.ty.now c.args.body.now) p.1 p.0 c.args.ty.now c.args.body.now refl opened_is c.requires.typed,
    )

pub reduced_abstraction-closed_again-requires-clause-apart : goal.reduced_abstraction-closed_again-requires-clause-apart
reduced_abstraction-closed_again-requires-clause-apart t c = c.in_ok-opening.ensures.first.unused

pub reduced-returns-then-is_normal-clause-reduction : goal.reduced-returns-then-is_normal-clause-reduction
reduced-returns-then-is_normal-clause-reduction t c = unreduced_ok c.args.defs.now c.args.term.now c.refl_known.result c.refl_known.ensures

pub reduced-beta_known-requires-clause-typed : goal.reduced-beta_known-requires-clause-typed
reduced-beta_known-requires-clause-typed t c = c.requires

pub reduced-beta_known-requires-clause-redex : goal.reduced-beta_known-requires-clause-redex
reduced-beta_known-requires-clause-redex t c = sym c.is_redex.ensures ∙ c.if-is_redex.true

pub reduced-reduced_application-requires : goal.reduced-reduced_application-requires
reduced-reduced_application-requires t c =
    let is = sym c.node.ensures ∙ ap seen c.in-App.is in (
      omega (arith, parts_smaller c.args.term.now c.in-App.fun c.in-App.arg is),
      whole_typed (signature_of c.args.defs.now) c.args.term.now _ is c.requires,
    )

pub reduced-contracted_after-requires : goal.reduced-contracted_after-requires
reduced-contracted_after-requires t c = reduction_of c.args.defs.now c.in_ok-made-in-App.made c.args.term.now _ (sym c.node.ensures ∙ ap seen c.in-App.is) c.in_ok-made-in-App.ensures.reduction

pub reduced-reduced_abstraction-requires : goal.reduced-reduced_abstraction-requires
reduced-reduced_abstraction-requires t c =
    let is = sym c.node.ensures ∙ ap seen c.in-Abs.is in (
      omega (arith, inner_smaller c.args.term.now c.in-Abs.ty c.in-Abs.body is),
      (whole_typed (signature_of c.args.defs.now) c.args.term.now _ is c.requires, body_unreduced c.args.term.now c.in-Abs.ty c.in-Abs.body is (sym c.is_normal.ensures ∙ c.if-is_normal.false)),
    )

pub reduced-returns-in-Abs-clause-reduction : goal.reduced-returns-in-Abs-clause-reduction
reduced-returns-in-Abs-clause-reduction t c = whole_reduces c.args.defs.now c.reduced_abstraction.result c.args.term.now _ (sym c.node.ensures ∙ ap seen c.in-Abs.is) c.reduced_abstraction.ensures.reduction

pub reduced_application-returns-clause-parts : goal.reduced_application-returns-clause-parts
reduced_application-returns-clause-parts t c =
    parts_pass c.args.depth c.args.fun.now c.args.arg.now c.in_ok-functions.functions c.in_ok-arguments.arguments c.applied.result c.in_ok-functions.ensures.passes c.in_ok-arguments.ensures.passes c.applied.ensures.sides

pub reduced_abstraction-returns-clause-passes : goal.reduced_abstraction-returns-clause-passes
reduced_abstraction-returns-clause-passes t c =
    body_passes c.args.depth c.in_ok-next.next c.args.ty.now c.args.body.now c.in_ok-opening.opening.1 c.in_ok-opening.opening.0 c.in_ok-inner.inner c.closed_again.result
    c.in_ok-next.ensures c.in_ok-opening.ensures.first c.in_ok-opening.ensures.opened c.requires.unreduced c.in_ok-inner.ensures.passes c.closed_again.ensures.sides

pub reduced-returns-then-is_normal-clause-passes : goal.reduced-returns-then-is_normal-clause-passes
reduced-returns-then-is_normal-clause-passes t c = stays c.args.depth c.args.defs.now c.args.term.now c.refl_known.result (sym c.is_normal.ensures ∙ c.if-is_normal.true) c.refl_known.ensures

pub reduced-returns-then-is_redex-clause-passes : goal.reduced-returns-then-is_redex-clause-passes
reduced-returns-then-is_redex-clause-passes t c = contracts c.args.depth c.args.term.now c.beta_known.result (sym c.is_redex.ensures ∙ c.if-is_redex.true) c.beta_known.ensures.contracted

pub reduced-returns-in_ok-made-in-App-clause-passes : goal.reduced-returns-in_ok-made-in-App-clause-passes
reduced-returns-in_ok-made-in-App-clause-passes t c =
    whole_passes c.args.depth c.args.term.now c.in-App.fun c.in-App.arg c.in_ok-made-in-App.made c.contracted_after.result (sym c.node.ensures ∙ ap seen c.in-App.is)
    (sym c.is_normal.ensures ∙ c.if-is_normal.false) (sym c.is_redex.ensures ∙ c.if-is_redex.false) c.in_ok-made-in-App.ensures.parts c.contracted_after.ensures.contracted

pub reduced-returns-in-Abs-clause-passes : goal.reduced-returns-in-Abs-clause-passes
reduced-returns-in-Abs-clause-passes t c = same_passes c.args.depth c.args.term.now _ c.reduced_abstraction.result (sym c.node.ensures ∙ ap seen c.in-Abs.is) c.reduced_abstraction.ensures.passes
