use Rattle.fp_conv.proofs.Reduced.{right_typed}
use Rattle.fp_conv.proofs.Passed.{then_passes}
use Rattle.fp_conv.proofs.beta.reduced_after.Goals as goal

pub reduced-requires : goal.reduced-requires
reduced-requires c = right_typed c.concl.result.now c.right_side.result.now c.requires c.concl.ensures.formula c.concl.ensures.value c.right_side.ensures

pub returns-clause-passes : goal.returns-clause-passes
returns-clause-passes c =
    then_passes c.concl.result.now c.right_side.result.now c.args.made.now c.in_ok-next.next c.joined.result c.concl.ensures.value c.right_side.ensures c.in_ok-next.ensures.passes c.joined.ensures.last
