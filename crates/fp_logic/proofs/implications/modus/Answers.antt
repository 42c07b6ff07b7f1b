use Rattle.std.proofs.Common.{refl}
use Rattle.fp_kernel.specs.Definitions.{whole}
use Rattle.fp_logic.proofs.implications.modus.Goals as goal

pub conjunction_from-requires : goal.conjunction_from-requires
conjunction_from-requires c = c.requires.implication

pub eq_mp_known-requires : goal.eq_mp_known-requires
eq_mp_known-requires c = rw (c.in_ok-equation.ensures, c.requires.premise) (whole, c.requires.within, refl)

pub conjunct-requires : goal.conjunct-requires
conjunct-requires c = rw (c.in_ok-both.ensures, c.in_ok-equation.ensures) (whole, refl, c.requires.implication.2, c.requires.implication.3)

pub returns : goal.returns
returns c = rw (c.in_ok-both.ensures, c.in_ok-equation.ensures) at c.conjunct.ensures
