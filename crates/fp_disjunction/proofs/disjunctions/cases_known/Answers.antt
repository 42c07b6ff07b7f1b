use Rattle.std.proofs.Common.{refl}
use Rattle.fp_kernel.specs.Definitions.{whole}
use Rattle.fp_disjunction.proofs.disjunctions.cases_known.Goals as goal

pub first_passed-requires-clause-disjunction : goal.first_passed-requires-clause-disjunction
first_passed-requires-clause-disjunction c = c.requires.disjunction

pub first_passed-requires-clause-within : goal.first_passed-requires-clause-within
first_passed-requires-clause-within c = c.requires.second_within

pub disch_known-requires-clause-within : goal.disch_known-requires-clause-within
disch_known-requires-clause-within c = c.requires.third_within

pub disch_known-requires-clause-formula : goal.disch_known-requires-clause-formula
disch_known-requires-clause-formula c = c.requires.disjunction.3

pub mp_known-requires-clause-first_within : goal.mp_known-requires-clause-first_within
mp_known-requires-clause-first_within c = rw c.in_ok-once.ensures whole

pub mp_known-requires-clause-second_within : goal.mp_known-requires-clause-second_within
mp_known-requires-clause-second_within c = rw c.in_ok-second.ensures whole

pub mp_known-requires-clause-shape : goal.mp_known-requires-clause-shape
mp_known-requires-clause-shape c = rw (c.in_ok-second.ensures, c.in_ok-once.ensures, c.requires.same) refl

pub returns : goal.returns
returns c = rw (c.in_ok-second.ensures, c.in_ok-once.ensures) at c.mp_known.ensures
