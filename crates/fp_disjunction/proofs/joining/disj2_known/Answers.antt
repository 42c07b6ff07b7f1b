use Rattle.std.proofs.Common.{refl}
use Rattle.fp_kernel.specs.Definitions.{whole}
use Rattle.fp_disjunction.proofs.joining.disj2_known.Goals as goal

pub second_equation-requires-clause-within : goal.second_equation-requires-clause-within
second_equation-requires-clause-within c = c.requires.within

pub second_equation-requires-clause-formula : goal.second_equation-requires-clause-formula
second_equation-requires-clause-formula c = c.requires.formula

pub second_truth-requires : goal.second_truth-requires
second_truth-requires c = c.requires.formula

pub eq_mp_known-requires : goal.eq_mp_known-requires
eq_mp_known-requires c = rw (c.in_ok-truth.ensures, c.in_ok-equation.ensures) (whole, whole, refl)

pub returns : goal.returns
returns c = rw (c.in_ok-truth.ensures, c.in_ok-equation.ensures) at c.eq_mp_known.ensures
