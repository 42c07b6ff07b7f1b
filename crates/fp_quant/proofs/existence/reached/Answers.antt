use Rattle.std.proofs.Common.{refl}
use Rattle.fp_conclude.specs.Logic.{truth_type}
use Rattle.fp_kernel.specs.Definitions.{whole}
use Rattle.fp_logic.proofs.Concrete.{at_start}
use Rattle.fp_forms.specs.Existence.{holds}
use Rattle.fp_quant.proofs.existence.reached.Goals as goal

pub implied_by-requires : goal.implied_by-requires
implied_by-requires c = c.requires.each

pub assume_known-requires : goal.assume_known-requires
assume_known-requires c = rw c.requires.held (at_start c.args.defs.now holds truth_type refl refl)

pub mp_known-requires-clause-first_within : goal.mp_known-requires-clause-first_within
mp_known-requires-clause-first_within c = rw c.in_ok-implied.ensures whole

pub mp_known-requires-clause-second_within : goal.mp_known-requires-clause-second_within
mp_known-requires-clause-second_within c = rw c.in_ok-itself.ensures whole

pub mp_known-requires-clause-shape : goal.mp_known-requires-clause-shape
mp_known-requires-clause-shape c = rw (c.in_ok-implied.ensures, c.in_ok-itself.ensures, c.requires.held) refl

pub returns : goal.returns
returns c = rw (c.in_ok-implied.ensures, c.in_ok-itself.ensures, c.requires.held) at c.mp_known.ensures
