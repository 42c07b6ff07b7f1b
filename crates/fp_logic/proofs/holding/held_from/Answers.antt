use Rattle.std.proofs.Common.{refl}
use Rattle.fp_conclude.specs.Logic.{truth_type}
use Rattle.fp_kernel.specs.Definitions.{whole}
use Rattle.fp_forms.specs.Schemas.{p_variable}
use Rattle.fp_logic.proofs.Concrete.{at_start}
use Rattle.fp_logic.proofs.holding.held_from.Goals as goal

pub assume_known-requires : goal.assume_known-requires
assume_known-requires c = rw c.in_ok-term.ensures (at_start c.args.defs.now p_variable truth_type refl refl)

pub antisym_known-requires : goal.antisym_known-requires
antisym_known-requires c = rw (c.in_ok-itself.ensures, c.in_ok-truth.ensures) (whole, whole)

pub returns : goal.returns
returns c = rw (c.in_ok-itself.ensures, c.in_ok-truth.ensures, c.in_ok-term.ensures) at c.antisym_known.ensures
