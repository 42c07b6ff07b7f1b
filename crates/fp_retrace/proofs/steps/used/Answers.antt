use Rattle.fp_retrace.proofs.steps.used.Goals as goal

pub carry_on-requires-clause-stack : goal.carry_on-requires-clause-stack
carry_on-requires-clause-stack c = c.in_ok-rule.ensures.rest c.args.defs.now c.requires
