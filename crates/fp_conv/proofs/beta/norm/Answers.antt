use Rattle.fp_conv.proofs.Given.{within}
use Rattle.fp_conv.proofs.Reduced.{conclusion_typed, moved_given, moved_normalizes}
use Rattle.fp_conv.proofs.beta.norm.Goals as goal

pub beta_norm-requires : goal.beta_norm-requires
beta_norm-requires c = conclusion_typed c.args.defs.now c.args.given.now c.concl.result.now c.requires c.concl.ensures.derived c.concl.ensures.value

pub eq_mp_known-requires-clause-first_within : goal.eq_mp_known-requires-clause-first_within
eq_mp_known-requires-clause-first_within c = within c.in_ok-equal.ensures.equates

pub eq_mp_known-requires-clause-given : goal.eq_mp_known-requires-clause-given
eq_mp_known-requires-clause-given c = moved_given c.args.given.now c.in_ok-equal.ensures c.concl.ensures.value

pub returns-clause-ok : goal.returns-clause-ok
returns-clause-ok c =
    moved_normalizes c.args.given.now c.in_ok-equal.ensures c.concl.ensures.value c.in_ok-eq_mp_known.field-0 c.promises.ensures.set c.hyps.ensures.set c.in_ok-eq_mp_known.ensures
