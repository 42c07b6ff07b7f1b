use Rattle.fp_admit.specs.Admitted.{IsHeadOf}
use Rattle.fp_admit.proofs.Each.{pushed}
use Rattle.fp_admit.proofs.taking.heads_of.Goals as goal

pub loop-name-preserved : goal.loop-name-preserved
loop-name-preserved c =
    pushed IsHeadOf c.args.exact.now c.loop-name.heads c.push.new.self c.loop-name.name-index c.loop-name-item.result c.in_ok-head_by.field-0
    c.in_ok-push.ensures.ok c.loop-name-item.is c.loop-name-test.true c.loop-name.invariant c.in_ok-head_by.ensures
