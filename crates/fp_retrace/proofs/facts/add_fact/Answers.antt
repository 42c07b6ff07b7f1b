use Rattle.fp_retrace.proofs.Stood.{within_pushed}
use Rattle.fp_retrace.proofs.facts.add_fact.Goals as goal

pub returns : goal.returns
returns c = within_pushed c.args.defs.now c.push.result c.args.facts.now c.push.new.self c.in_ok-fact.fact c.push.ensures.ok c.requires.facts c.in_ok-fact.ensures
