use Rattle.fp_kernel.specs.Definitions.{whole}
use Rattle.fp_disjunction.proofs.joining.discharged_twice.Goals as goal

pub disch_known-requires-clause-within : goal.disch_known-requires-clause-within
disch_known-requires-clause-within c = c.requires.within

pub disch_known-requires-clause-formula : goal.disch_known-requires-clause-formula
disch_known-requires-clause-formula c = c.requires.first

pub disch_known-requires-2-clause-within : goal.disch_known-requires-2-clause-within
disch_known-requires-2-clause-within c = rw c.in_ok-once.ensures whole

pub disch_known-requires-2-clause-formula : goal.disch_known-requires-2-clause-formula
disch_known-requires-2-clause-formula c = c.requires.second

pub returns : goal.returns
returns c = rw c.in_ok-once.ensures at c.disch_known-2.ensures
