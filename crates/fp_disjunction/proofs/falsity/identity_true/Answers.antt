use Rattle.std.proofs.Common.{refl}
use Rattle.fp_disjunction.proofs.falsity.identity_true.Goals as goal

pub always_from-requires-clause-within : goal.always_from-requires-clause-within
always_from-requires-clause-within c = c.requires.within

pub always_from-requires-clause-shape : goal.always_from-requires-clause-shape
always_from-requires-clause-shape c = c.requires.shape

pub always_at-requires-clause-always : goal.always_at-requires-clause-always
always_at-requires-clause-always c = rw c.in_ok-always.ensures refl

pub always_at-requires-clause-formula : goal.always_at-requires-clause-formula
always_at-requires-clause-formula c = c.requires.formula

pub returns : goal.returns
returns c = rw c.in_ok-always.ensures at c.always_at.ensures
