use Rattle.fp_admit.proofs.Each.{one_argument}
use Rattle.fp_admit.proofs.taking.head_by.Goals as goal

pub loop-preserved : goal.loop-preserved
loop-preserved c =
    one_argument c.args.ty.now c.loop.args c.push.new.self c.in_ok-copy-in-Some.field-0 c.loop.rest.now c.in-Some.from.now c.in-Some.to.now c.in_ok-push-in-Some.ensures.ok c.in_ok-copy-in-Some.ensures
    c.in-Some.ensures c.loop.invariant
