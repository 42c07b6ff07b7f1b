use Rattle.std.proofs.Common.{refl}
use Rattle.fp_kernel.specs.Definitions.{whole}
use Rattle.fp_conclude.specs.Logic.{truth_type, true_constant, implication}
use Rattle.fp_disjunction.specs.Schemas.{r_variable}
use Rattle.fp_logic.proofs.Concrete.{at_start}
use Rattle.fp_disjunction.proofs.joining.reached.Goals as goal

pub assume_known-requires : goal.assume_known-requires
assume_known-requires c = rw c.requires (at_start c.args.defs.now (implication true_constant r_variable) truth_type refl refl)

pub mp_known-requires-clause-first_within : goal.mp_known-requires-clause-first_within
mp_known-requires-clause-first_within c = rw c.in_ok-itself.ensures whole

pub mp_known-requires-clause-second_within : goal.mp_known-requires-clause-second_within
mp_known-requires-clause-second_within c = rw c.in_ok-truth.ensures whole

pub mp_known-requires-clause-shape : goal.mp_known-requires-clause-shape
mp_known-requires-clause-shape c = rw (c.in_ok-itself.ensures, c.in_ok-truth.ensures, c.requires) refl

pub returns : goal.returns
returns c = rw (c.in_ok-itself.ensures, c.in_ok-truth.ensures, c.requires) at c.mp_known.ensures
