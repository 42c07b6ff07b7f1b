use Rattle.fp_retrace.proofs.steps.fails.Goals as goal

pub returns : goal.returns
returns c = λ defs k. c.in_ok-taken-2.ensures.rest defs (c.in_ok-taken.ensures.rest defs k)
