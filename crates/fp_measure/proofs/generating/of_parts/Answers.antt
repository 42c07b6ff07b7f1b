use Rattle.fp_measure.proofs.Generated.{one_more_form}
use Rattle.fp_measure.proofs.generating.of_parts.Goals as goal

pub loop-measure-preserved : goal.loop-measure-preserved
loop-measure-preserved c =
    one_more_form c.args.pair.now c.args.projection.now c.in_ok-whole.whole c.in_ok-normal_form.field-0 c.args.measures.now c.loop-measure.made c.push.new.self c.loop-measure.measure-index c.measure-item.result
    c.measure-item.is c.loop-measure-test.true c.in_ok-whole.ensures c.in_ok-normal_form.ensures c.in_ok-push.ensures.ok c.loop-measure.invariant
