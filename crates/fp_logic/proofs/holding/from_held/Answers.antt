use Rattle.std.proofs.Common.{refl}
use Rattle.fp_conclude.specs.Logic.{truth_type}
use Rattle.fp_kernel.specs.Definitions.{whole}
use Rattle.fp_forms.specs.Schemas.{p_variable, held}
use Rattle.fp_logic.proofs.Concrete.{at_start}
use Rattle.fp_logic.proofs.holding.from_held.Goals as goal

pub assume_known-requires : goal.assume_known-requires
assume_known-requires c = rw c.in_ok-held.ensures (at_start c.args.defs.now (held p_variable) truth_type refl refl)

pub eq_mp_known-requires : goal.eq_mp_known-requires
eq_mp_known-requires c = rw (c.in_ok-itself.ensures, c.in_ok-held.ensures, c.in_ok-truth.ensures) (whole, whole, refl)

pub returns : goal.returns
returns c = rw (c.in_ok-itself.ensures, c.in_ok-held.ensures, c.in_ok-truth.ensures) at c.eq_mp_known.ensures
