use Rattle.std.proofs.Common.{◌∙◌, sym}
use Rattle.fp_conv.proofs.Reduced.{normal_form}
use Rattle.fp_conv.proofs.Passed.{after_pass}
use Rattle.fp_conv.proofs.beta.beta_norm.Goals as goal

pub returns-then-is_normal : goal.returns-then-is_normal
returns-then-is_normal c =
    normal_form c.concl.result.now c.right_side.result.now c.loop.invariant.0 c.concl.ensures.value c.right_side.ensures (sym c.is_normal.ensures ∙ c.if-is_normal.true) c.loop.invariant.1

pub loop-init : goal.loop-init
loop-init c = (c.in_ok-made.ensures.reduction, λ v k. after_pass c.in_ok-made.ensures.passes k)

pub loop-preserved : goal.loop-preserved
loop-preserved c = (c.in_ok-made-2.ensures.reduction, λ v k. c.loop.invariant.1 v (after_pass c.in_ok-made-2.ensures.passes k))
