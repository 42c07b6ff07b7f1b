use Rattle.fp_retrace.proofs.Stood.{both_within}
use Rattle.fp_retrace.proofs.moves.detached.Goals as goal

pub returns : goal.returns
returns c = both_within c.args.defs.now c.mp.result c.given.result c.args.rule.now c.args.formula.now _ c.mp.ensures c.given.ensures
