use Rattle.std.proofs.Common.{refl}
use Rattle.fp_disjunction.proofs.joining.first_equation.Goals as goal

pub hold-requires : goal.hold-requires
hold-requires c = c.requires.within

pub first_replaced-requires-clause-held : goal.first_replaced-requires-clause-held
first_replaced-requires-clause-held c = rw c.in_ok-held.ensures refl

pub first_replaced-requires-clause-formula : goal.first_replaced-requires-clause-formula
first_replaced-requires-clause-formula c = c.requires.formula

pub returns : goal.returns
returns c = rw c.in_ok-held.ensures at c.first_replaced.ensures
