use Rattle.std.proofs.Common.{refl}
use Rattle.fp_conclude.specs.Logic.{truth_type, false_constant}
use Rattle.fp_kernel.specs.Definitions.{whole}
use Rattle.fp_logic.proofs.Concrete.{at_start}
use Rattle.fp_disjunction.proofs.negation.implied_falsity.Goals as goal

pub not_elim_known-requires : goal.not_elim_known-requires
not_elim_known-requires c = c.requires

pub implied_from-requires : goal.implied_from-requires
implied_from-requires c = rw (c.in_ok-opened.ensures, c.in_ok-falsity.ensures) (whole, refl, c.requires.2, at_start c.args.defs.now false_constant truth_type refl refl)

pub returns : goal.returns
returns c = rw (c.in_ok-opened.ensures, c.in_ok-falsity.ensures) at c.implied_from.ensures
