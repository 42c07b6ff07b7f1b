use Rattle.std.proofs.Common.{refl}
use Rattle.fp_conclude.specs.Logic.{truth_type}
use Rattle.fp_kernel.specs.Definitions.{whole}
use Rattle.fp_disjunction.proofs.joining.first_replaced.Goals as goal

pub or_replaced-requires : goal.or_replaced-requires
or_replaced-requires c = c.requires.held

pub refl_known-requires : goal.refl_known-requires
refl_known-requires c = (truth_type, c.requires.formula)

pub mk_comb_known-requires : goal.mk_comb_known-requires
mk_comb_known-requires c = rw (c.in_ok-once.ensures, c.in_ok-own.ensures truth_type c.requires.formula.typed) (whole, whole, refl, refl)

pub returns : goal.returns
returns c = rw (c.in_ok-once.ensures, c.in_ok-own.ensures truth_type c.requires.formula.typed) at c.mk_comb_known.ensures
