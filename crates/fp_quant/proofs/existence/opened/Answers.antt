use Rattle.std.proofs.Common.{refl}
use Rattle.fp_conclude.specs.Logic.{truth_type, alpha}
use Rattle.fp_kernel.specs.Definitions.{whole}
use Rattle.fp_logic.proofs.Concrete.{at_start}
use Rattle.fp_forms.specs.Existence.{predicate_variable, some_such}
use Rattle.fp_quant.proofs.existence.opened.Goals as goal

pub assume_known-requires : goal.assume_known-requires
assume_known-requires c = rw c.requires (at_start c.args.defs.now (some_such alpha predicate_variable) truth_type refl refl)

pub convert-requires : goal.convert-requires
convert-requires c = rw (c.in_ok-meaning.ensures, c.in_ok-itself.ensures, c.requires) (refl, whole, refl)

pub returns : goal.returns
returns c = rw (c.in_ok-meaning.ensures, c.in_ok-itself.ensures, c.requires) at c.convert.ensures
