use Rattle.std.proofs.Common.{refl}
use Rattle.fp_conclude.specs.Logic.{truth_type, equal}
use Rattle.fp_kernel.specs.Theorems.{plain}
use Rattle.fp_forms.specs.Schemas.{q_variable}
use Rattle.fp_logic.proofs.Concrete.{at_start}
use Rattle.fp_logic.proofs.Given.{at_type}
use Rattle.fp_logic.proofs.unfolding.own_q.Goals as goal

pub refl_known-requires : goal.refl_known-requires
refl_known-requires c = (truth_type, rw c.in_ok-term.ensures (at_start c.args.defs.now q_variable truth_type refl refl))

pub returns : goal.returns
returns c = at_type c.refl_known.result q_variable (λ u. plain c.args.defs.now (equal u q_variable q_variable)) truth_type refl (rw c.in_ok-term.ensures at c.refl_known.ensures)
