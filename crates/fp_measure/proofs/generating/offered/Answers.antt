use Rattle.fp_measure.proofs.Generated.{offered_more, more_measures}
use Rattle.fp_measure.proofs.generating.offered.Goals as goal

pub loop-source-preserved : goal.loop-source-preserved
loop-source-preserved g c = (
  offered_more _ c.args.ty.now c.args.sources.now c.loop-source.source-index c.source-item.result c.loop-source.all c.in_ok-of_source.field-0 c.in_ok-all.all _ c.source-item.is c.loop-source-test.true
      c.in_ok-of_source.ensures.exact c.in_ok-all.ensures c.loop-source.invariant.0,
  more_measures c.args.ty.now c.loop-source.all c.in_ok-of_source.field-0 c.in_ok-all.all c.in_ok-all.ensures c.loop-source.invariant.1 c.in_ok-of_source.ensures.measures,
)
