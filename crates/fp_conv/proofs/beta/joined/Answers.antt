use Rattle.fp_conv.proofs.Given.{within}
use Rattle.fp_conv.proofs.Reduced.{after_given, after_reduces, after_right}
use Rattle.fp_conv.proofs.beta.joined.Goals as goal

pub trans_known-requires-clause-first_within : goal.trans_known-requires-clause-first_within
trans_known-requires-clause-first_within c = within c.requires.first.equates

pub trans_known-requires-clause-second_within : goal.trans_known-requires-clause-second_within
trans_known-requires-clause-second_within c = within c.requires.second.equates

pub trans_known-requires-clause-given : goal.trans_known-requires-clause-given
trans_known-requires-clause-given c = after_given c.requires.first c.requires.second c.concl.ensures.formula

pub returns-clause-reduction : goal.returns-clause-reduction
returns-clause-reduction c = after_reduces c.trans_known.result c.requires.first c.requires.second c.concl.ensures.formula c.trans_known.ensures

pub returns-clause-last : goal.returns-clause-last
returns-clause-last c = after_right c.trans_known.result c.requires.first c.requires.second c.concl.ensures.formula c.trans_known.ensures
