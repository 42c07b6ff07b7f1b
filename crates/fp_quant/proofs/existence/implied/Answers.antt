use Rattle.std.proofs.Common.{refl}
use Rattle.fp_conclude.specs.Logic.{alpha}
use Rattle.fp_kernel.specs.Definitions.{whole}
use Rattle.fp_logic.proofs.Concrete.{at_start}
use Rattle.fp_forms.specs.Existence.{element_variable}
use Rattle.fp_quant.proofs.existence.implied.Goals as goal

pub specialized-requires-clause-within : goal.specialized-requires-clause-within
specialized-requires-clause-within c = rw c.requires whole

pub specialized-requires-clause-shape : goal.specialized-requires-clause-shape
specialized-requires-clause-shape c = rw (c.requires, c.in_ok-ty.ensures, c.in_ok-body.ensures) refl

pub specialized-requires-clause-typed : goal.specialized-requires-clause-typed
specialized-requires-clause-typed c = rw (c.in_ok-ty.ensures, c.in_ok-element.ensures) (at_start c.args.defs.now element_variable alpha refl refl)

pub returns : goal.returns
returns c = rw (c.in_ok-body.ensures, c.in_ok-element.ensures) at c.specialized.ensures
