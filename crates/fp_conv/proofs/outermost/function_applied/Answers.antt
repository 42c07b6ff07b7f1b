use Rattle.fp_conv.proofs.Given.{within, combine_given}
use Rattle.fp_conv.proofs.Rewriting.{own_parts}
use Rattle.fp_conv.proofs.Walking.{both_ok, function_ok}
use Rattle.fp_conv.proofs.outermost.function_applied.Goals as goal

pub mk_comb_known-requires-clause-first_within : goal.mk_comb_known-requires-clause-first_within
mk_comb_known-requires-clause-first_within c = within c.requires.functions.equates

pub mk_comb_known-requires-clause-second_within : goal.mk_comb_known-requires-clause-second_within
mk_comb_known-requires-clause-second_within c = let d = rw c.in-Some.is at c.requires.arguments in within d.equates

pub mk_comb_known-requires-clause-given : goal.mk_comb_known-requires-clause-given
mk_comb_known-requires-clause-given c = let d = rw c.in-Some.is at c.requires.arguments in combine_given c.requires.functions.equates d.equates c.requires.typed

pub ap_arg_known-requires-clause-equation : goal.ap_arg_known-requires-clause-equation
ap_arg_known-requires-clause-equation c = own_parts c.requires.functions.equates

pub ap_arg_known-requires-clause-typed : goal.ap_arg_known-requires-clause-typed
ap_arg_known-requires-clause-typed c = c.requires.typed

pub returns-in-Some : goal.returns-in-Some
returns-in-Some c = both_ok c.args.defs.now c.args.eq.now.promises c.args.eq.now.hyps c.args.sides.now.left.now c.args.sides.now.right.now c.requires.none c.mk_comb_known.result c.requires.functions (rw c.in-Some.is at c.requires.arguments) c.requires.typed c.mk_comb_known.ensures

pub returns-in-None : goal.returns-in-None
returns-in-None c = function_ok c.args.defs.now c.args.eq.now.promises c.args.eq.now.hyps c.args.sides.now.left.now c.args.sides.now.right.now c.requires.none c.ap_arg_known.result c.requires.functions (rw c.in-None.is at c.requires.arguments) c.ap_arg_known.ensures
