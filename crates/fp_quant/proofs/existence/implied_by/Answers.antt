use Rattle.std.proofs.Common.{refl}
use Rattle.fp_conclude.specs.Logic.{truth_type, alpha}
use Rattle.fp_forms.specs.Schemas.{q_variable}
use Rattle.fp_logic.proofs.Concrete.{at_start}
use Rattle.fp_forms.specs.Existence.{predicate_variable, each_implies}
use Rattle.fp_quant.proofs.existence.implied_by.Goals as goal

pub assume_known-requires : goal.assume_known-requires
assume_known-requires c = rw c.requires (at_start c.args.defs.now (each_implies alpha predicate_variable q_variable) truth_type refl refl)

pub implied-requires : goal.implied-requires
implied-requires c = rw (c.in_ok-itself.ensures, c.requires) refl

pub returns : goal.returns
returns c = rw (c.in_ok-itself.ensures, c.requires) at c.implied.ensures
