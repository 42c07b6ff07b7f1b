use Rattle.std.proofs.Common.{refl}
use Rattle.fp_disjunction.proofs.negation.eqf_known.Goals as goal

pub implied_falsity-requires : goal.implied_falsity-requires
implied_falsity-requires c = c.requires

pub contradiction-requires : goal.contradiction-requires
contradiction-requires c = c.requires.2

pub matched-requires-clause-first : goal.matched-requires-clause-first
matched-requires-clause-first c = rw c.in_ok-implied.ensures refl

pub matched-requires-clause-second : goal.matched-requires-clause-second
matched-requires-clause-second c = rw (c.in_ok-contradiction.ensures, c.in_ok-implied.ensures) refl

pub returns : goal.returns
returns c = rw (c.in_ok-contradiction.ensures, c.in_ok-implied.ensures) at c.matched.ensures
