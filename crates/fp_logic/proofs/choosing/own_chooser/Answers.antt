use Rattle.fp_conclude.specs.Logic.{truth_type, binary_type, equal}
use Rattle.fp_kernel.specs.Theorems.{plain}
use Rattle.fp_forms.specs.Schemas.{chooser}
use Rattle.fp_logic.proofs.Given.{at_known, known_typed}
use Rattle.fp_logic.proofs.Choosers.{chooser_typed}
use Rattle.fp_logic.proofs.choosing.own_chooser.Goals as goal

pub refl_known-requires : goal.refl_known-requires
refl_known-requires c = known_typed c.args.defs.now c.in_ok-by.by (chooser c.args.first) (binary_type truth_type truth_type) c.in_ok-by.ensures (chooser_typed c.args.defs.now c.args.first)

pub returns : goal.returns
returns c =
    at_known c.refl_known.result (λ t s. plain c.args.defs.now (equal s t t)) c.in_ok-by.by (chooser c.args.first) (binary_type truth_type truth_type) c.in_ok-by.ensures (chooser_typed c.args.defs.now c.args.first).typed c.refl_known.ensures
