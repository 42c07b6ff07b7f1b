use Rattle.fp_retrace.proofs.steps.application.Goals as goal

pub combined-requires-clause-first : goal.combined-requires-clause-first
combined-requires-clause-first c = c.in_ok-fun.ensures.top c.args.defs.now (c.in_ok-arg.ensures.rest c.args.defs.now c.requires)

pub carry_on-requires-clause-stack : goal.carry_on-requires-clause-stack
carry_on-requires-clause-stack c = c.in_ok-fun.ensures.rest c.args.defs.now (c.in_ok-arg.ensures.rest c.args.defs.now c.requires)
