use Rattle.fp_kernel.specs.Definitions.{whole}
use Rattle.fp_logic.proofs.implications.with_assumption.Goals as goal

pub assume_known-requires : goal.assume_known-requires
assume_known-requires c = c.requires.formula

pub conj_known-requires-clause-first_within : goal.conj_known-requires-clause-first_within
conj_known-requires-clause-first_within c = rw c.in_ok-itself.ensures whole

pub conj_known-requires-clause-second_within : goal.conj_known-requires-clause-second_within
conj_known-requires-clause-second_within c = c.requires.within

pub returns : goal.returns
returns c = rw c.in_ok-itself.ensures at c.conj_known.ensures
