use Rattle.std.proofs.Common.{◌∙◌, refl, ap}
use Rattle.fp_kernel.specs.Definitions.{whole}
use Rattle.fp_kernel.specs.Theorems.{Theorem}
use Rattle.fp_conclude.specs.Shapes.{left}
use Rattle.fp_quant.proofs.universal.applied_to.Goals as goal

pub eqt_elim_known-requires-clause-within : goal.eqt_elim_known-requires-clause-within
eqt_elim_known-requires-clause-within c = rw c.in_ok-against.ensures whole

pub eqt_elim_known-requires-clause-shape : goal.eqt_elim_known-requires-clause-shape
eqt_elim_known-requires-clause-shape c =
    let e = c.left.ensures ∙ ap left c.concl.ensures.value ∙ ap (λ (x : Theorem). left x.concl) c.in_ok-against.ensures in
    rw (e, c.in_ok-against.ensures) refl

pub returns : goal.returns
returns c =
    let e = c.left.ensures ∙ ap left c.concl.ensures.value ∙ ap (λ (x : Theorem). left x.concl) c.in_ok-against.ensures in
    rw (e, c.in_ok-against.ensures) at c.eqt_elim_known.ensures
