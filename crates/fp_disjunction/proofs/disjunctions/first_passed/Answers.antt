use Rattle.std.proofs.Common.{refl}
use Rattle.fp_kernel.specs.Definitions.{whole}
use Rattle.fp_logic.proofs.Turning.{lifted}
use Rattle.fp_disjunction.proofs.disjunctions.first_passed.Goals as goal

pub ways-requires-clause-disjunction : goal.ways-requires-clause-disjunction
ways-requires-clause-disjunction c = c.requires.disjunction

pub ways-requires-clause-formula : goal.ways-requires-clause-formula
ways-requires-clause-formula c = rw c.concl.ensures.value (lifted c.args.defs.now c.args.b.now c.requires.within c.concl.ensures.derived)

pub disch_known-requires-clause-within : goal.disch_known-requires-clause-within
disch_known-requires-clause-within c = c.requires.within

pub disch_known-requires-clause-formula : goal.disch_known-requires-clause-formula
disch_known-requires-clause-formula c = c.requires.disjunction.2

pub mp_known-requires-clause-first_within : goal.mp_known-requires-clause-first_within
mp_known-requires-clause-first_within c = rw c.in_ok-ways.ensures whole

pub mp_known-requires-clause-second_within : goal.mp_known-requires-clause-second_within
mp_known-requires-clause-second_within c = rw c.in_ok-first.ensures whole

pub mp_known-requires-clause-shape : goal.mp_known-requires-clause-shape
mp_known-requires-clause-shape c = rw (c.in_ok-first.ensures, c.in_ok-ways.ensures, c.concl.ensures.value) refl

pub returns : goal.returns
returns c = rw (c.in_ok-first.ensures, c.in_ok-ways.ensures, c.concl.ensures.value) at c.mp_known.ensures
