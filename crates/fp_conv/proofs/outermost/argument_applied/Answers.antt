use Rattle.fp_conv.proofs.Rewriting.{own_parts}
use Rattle.fp_conv.proofs.Walking.{argument_ok}
use Rattle.fp_conv.proofs.outermost.argument_applied.Goals as goal

pub ap_known-requires-clause-equation : goal.ap_known-requires-clause-equation
ap_known-requires-clause-equation c = own_parts c.requires.arguments.equates

pub ap_known-requires-clause-typed : goal.ap_known-requires-clause-typed
ap_known-requires-clause-typed c = c.requires.typed

pub returns : goal.returns
returns c = argument_ok c.args.defs.now c.args.eq.now.promises c.args.eq.now.hyps c.args.sides.now.left.now c.args.sides.now.right.now c.requires.none c.ap_known.result c.requires.functions c.requires.arguments c.ap_known.ensures
