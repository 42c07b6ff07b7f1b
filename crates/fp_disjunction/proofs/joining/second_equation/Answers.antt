use Rattle.std.proofs.Common.{refl}
use Rattle.fp_disjunction.proofs.joining.second_equation.Goals as goal

pub hold-requires : goal.hold-requires
hold-requires c = c.requires.within

pub second_replaced-requires-clause-held : goal.second_replaced-requires-clause-held
second_replaced-requires-clause-held c = rw c.in_ok-held.ensures refl

pub second_replaced-requires-clause-formula : goal.second_replaced-requires-clause-formula
second_replaced-requires-clause-formula c = c.requires.formula

pub returns : goal.returns
returns c = rw c.in_ok-held.ensures at c.second_replaced.ensures
