use Rattle.std.proofs.Common.{refl}
use Rattle.fp_conclude.specs.Logic.{truth_type}
use Rattle.fp_kernel.specs.Definitions.{whole}
use Rattle.fp_forms.specs.Schemas.{q_variable}
use Rattle.fp_logic.proofs.Concrete.{at_start}
use Rattle.fp_quant.proofs.existence.reaches_from.Goals as goal

pub opened-requires : goal.opened-requires
opened-requires c = c.requires

pub specialized-requires-clause-within : goal.specialized-requires-clause-within
specialized-requires-clause-within c = rw c.in_ok-opened.ensures whole

pub specialized-requires-clause-shape : goal.specialized-requires-clause-shape
specialized-requires-clause-shape c = rw (c.body_in.ensures, c.argument_in.ensures, c.concl.ensures.value, c.in_ok-opened.ensures, c.in_ok-ty.ensures) refl

pub specialized-requires-clause-typed : goal.specialized-requires-clause-typed
specialized-requires-clause-typed c = rw (c.in_ok-ty.ensures, c.in_ok-variable.ensures) (at_start c.args.defs.now q_variable truth_type refl refl)

pub returns : goal.returns
returns c = rw (c.body_in.ensures, c.argument_in.ensures, c.concl.ensures.value, c.in_ok-opened.ensures, c.in_ok-variable.ensures) at c.specialized.ensures
