use Rattle.fp_retrace.proofs.Stood.{both_within}
use Rattle.fp_retrace.proofs.moves.chained.Goals as goal

pub returns : goal.returns
returns c = both_within c.args.defs.now c.trans.result c.given.result c.args.first.now c.args.second.now _ c.trans.ensures c.given.ensures
