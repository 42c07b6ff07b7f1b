use Rattle.fp_retrace.proofs.Stood.{one_within}
use Rattle.fp_retrace.proofs.moves.replaced.Goals as goal

pub returns : goal.returns
returns c = one_within c.args.defs.now c.inst.result c.given.result c.args.rule.now _ _ c.inst.ensures c.given.ensures
