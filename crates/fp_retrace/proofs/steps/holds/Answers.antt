use Rattle.fp_retrace.proofs.Stood.{within_put}
use Rattle.fp_retrace.proofs.steps.holds.Goals as goal

pub discharged-requires-clause-first : goal.discharged-requires-clause-first
discharged-requires-clause-first c = c.in_ok-rule.ensures.top c.args.defs.now (c.in_ok-held.ensures.rest c.args.defs.now c.requires)

pub returns : goal.returns
returns c =
    within_put c.args.defs.now c.push.result c.taken-2.new.stack c.push.new.self c.in_ok-new.new c.push.ensures.ok (c.in_ok-rule.ensures.rest c.args.defs.now (c.in_ok-held.ensures.rest c.args.defs.now c.requires)) c.in_ok-new.ensures
