use Rattle.std.proofs.Common.{refl}
use Rattle.fp_kernel.specs.Definitions.{whole}
use Rattle.fp_logic.proofs.derivations.choices_by.Goals as goal

pub mk_comb_known-requires : goal.mk_comb_known-requires
mk_comb_known-requires c = rw (c.in_ok-equality.ensures, c.requires) (whole, whole, refl, refl)

pub truth_choice-requires : goal.truth_choice-requires
truth_choice-requires c = c.requires

pub mk_comb_known-requires-2 : goal.mk_comb_known-requires-2
mk_comb_known-requires-2 c = rw (c.in_ok-applied.ensures, c.in_ok-equality.ensures, c.requires, c.in_ok-truth.ensures) (whole, whole, refl, refl)

pub returns : goal.returns
returns c = rw (c.in_ok-applied.ensures, c.in_ok-equality.ensures, c.requires, c.in_ok-truth.ensures) at c.mk_comb_known-2.ensures
