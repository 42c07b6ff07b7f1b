use Rattle.fp_conv.proofs.Given.{within, combine_given}
use Rattle.fp_conv.proofs.Reduced.{both_reduce, both_right}
use Rattle.fp_conv.proofs.beta.applied.Goals as goal

pub mk_comb_known-requires-clause-first_within : goal.mk_comb_known-requires-clause-first_within
mk_comb_known-requires-clause-first_within c = within c.requires.functions.equates

pub mk_comb_known-requires-clause-second_within : goal.mk_comb_known-requires-clause-second_within
mk_comb_known-requires-clause-second_within c = within c.requires.arguments.equates

pub mk_comb_known-requires-clause-given : goal.mk_comb_known-requires-clause-given
mk_comb_known-requires-clause-given c = combine_given c.requires.functions.equates c.requires.arguments.equates c.requires.typed

pub returns-clause-reduction : goal.returns-clause-reduction
returns-clause-reduction c = both_reduce c.mk_comb_known.result c.requires.typed c.requires.functions c.requires.arguments c.mk_comb_known.ensures

pub returns-clause-sides : goal.returns-clause-sides
returns-clause-sides c = both_right c.mk_comb_known.result c.requires.typed c.requires.functions c.requires.arguments c.mk_comb_known.ensures
