use Rattle.std.proofs.Common.{◌∙◌, sym}
use Rattle.fp_conv.specs.Passes.{done}
use Rattle.fp_normal.proofs.Passed.{after_pass}
use Rattle.fp_normal.proofs.normal.normal_form.Goals as goal

pub returns-then-is_normal : goal.returns-then-is_normal
returns-then-is_normal c = c.loop.invariant c.loop.made (done (sym c.is_normal.ensures ∙ c.if-is_normal.true))

pub loop-preserved : goal.loop-preserved
loop-preserved c =
    λ v k. after_pass c.args.term.now c.loop.made c.in_ok-made-2.made v (sym c.is_normal.ensures ∙ c.if-is_normal.false) c.in_ok-made-2.ensures c.loop.invariant k
