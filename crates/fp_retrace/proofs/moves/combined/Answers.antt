use Rattle.fp_retrace.proofs.Stood.{both_within}
use Rattle.fp_retrace.proofs.moves.combined.Goals as goal

pub returns : goal.returns
returns c = both_within c.args.defs.now c.mk_comb.result c.given.result c.args.first.now c.args.second.now _ c.mk_comb.ensures c.given.ensures
