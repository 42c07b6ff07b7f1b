use Rattle.fp_retrace.proofs.Stood.{one_within}
use Rattle.fp_retrace.proofs.moves.retyped.Goals as goal

pub returns : goal.returns
returns c = one_within c.args.defs.now c.inst_ty.result c.given.result c.args.rule.now _ _ c.inst_ty.ensures c.given.ensures
