use Rattle.fp_constrain.proofs.Clashing.{collects_at}
use Rattle.fp_constrain.proofs.clash.collect_given.Goals as goal

pub loop-pair-preserved : goal.loop-pair-preserved
loop-pair-preserved c = collects_at _ _ _ _ _ _ c.loop-pair-test.true c.pair-item.is c.loop-pair.invariant c.in_ok-collect_name.ensures
