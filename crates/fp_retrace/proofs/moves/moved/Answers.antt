use Rattle.fp_retrace.proofs.Stood.{both_within}
use Rattle.fp_retrace.proofs.moves.moved.Goals as goal

pub returns : goal.returns
returns c = both_within c.args.defs.now c.eq_mp.result c.given.result c.args.equation.now c.args.th.now _ c.eq_mp.ensures c.given.ensures
