use Rattle.fp_conv.proofs.Given.{within, combine_given, function_equates}
use Rattle.fp_conv.proofs.steps.ap_known.Goals as goal

pub mk_comb_known-requires-clause-first_within : goal.mk_comb_known-requires-clause-first_within
mk_comb_known-requires-clause-first_within c = within c.in_ok-same.ensures

pub mk_comb_known-requires-clause-second_within : goal.mk_comb_known-requires-clause-second_within
mk_comb_known-requires-clause-second_within c = within c.requires.equation

pub mk_comb_known-requires-clause-given : goal.mk_comb_known-requires-clause-given
mk_comb_known-requires-clause-given c = combine_given c.in_ok-same.ensures c.requires.equation c.requires.typed

pub returns : goal.returns
returns c = function_equates c.mk_comb_known.result c.promises.ensures.set c.hyps.ensures.set c.in_ok-same.ensures c.requires.equation c.requires.typed c.mk_comb_known.ensures
