use Rattle.std.proofs.Common.{refl}
use Rattle.fp_conclude.specs.Logic.{truth_type, equal}
use Rattle.fp_kernel.specs.Theorems.{plain}
use Rattle.fp_forms.specs.Schemas.{p_variable}
use Rattle.fp_logic.proofs.Concrete.{at_start}
use Rattle.fp_logic.proofs.Given.{at_type}
use Rattle.fp_logic.proofs.unfolding.own_p.Goals as goal

pub refl_known-requires : goal.refl_known-requires
refl_known-requires c = (truth_type, rw c.in_ok-term.ensures (at_start c.args.defs.now p_variable truth_type refl refl))

pub returns : goal.returns
returns c = at_type c.refl_known.result p_variable (λ u. plain c.args.defs.now (equal u p_variable p_variable)) truth_type refl (rw c.in_ok-term.ensures at c.refl_known.ensures)
