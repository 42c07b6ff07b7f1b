use Rattle.fp_retrace.proofs.Stood.{within_at_these}
use Rattle.fp_retrace.proofs.steps.carry_out.Goals as goal

pub returns-in-Fails-clause-stack : goal.returns-in-Fails-clause-stack
returns-in-Fails-clause-stack c = within_at_these c.fails.result c.args.defs.now c.args.stack.now c.fails.new.stack c.fails.ensures c.requires.stack

pub returns-in-Unused-clause-stack : goal.returns-in-Unused-clause-stack
returns-in-Unused-clause-stack c = within_at_these c.unused.result c.args.defs.now c.args.stack.now c.unused.new.stack c.unused.ensures c.requires.stack
