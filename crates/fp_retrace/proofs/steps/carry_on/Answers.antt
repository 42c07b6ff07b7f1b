use Rattle.fp_retrace.proofs.Stood.{within_put}
use Rattle.fp_retrace.proofs.steps.carry_on.Goals as goal

pub returns : goal.returns
returns c =
    within_put c.args.defs.now c.push.result c.taken.new.stack c.push.new.self c.in_ok-new.new c.push.ensures.ok (c.in_ok-whole.ensures.rest c.args.defs.now c.requires.stack) c.in_ok-new.ensures
