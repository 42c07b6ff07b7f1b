use Rattle.std.proofs.Common.{refl}
use Rattle.fp_conclude.specs.Logic.{truth_type, alpha}
use Rattle.fp_kernel.specs.Definitions.{whole}
use Rattle.fp_forms.specs.Schemas.{q_variable}
use Rattle.fp_logic.proofs.Concrete.{at_start}
use Rattle.fp_forms.specs.Existence.{predicate_variable, each_implies}
use Rattle.fp_quant.proofs.existence.reaches.Goals as goal

pub reached-requires-clause-each : goal.reached-requires-clause-each
reached-requires-clause-each c = c.in_ok-each.ensures

pub reached-requires-clause-held : goal.reached-requires-clause-held
reached-requires-clause-held c = c.requires

pub disch_known-requires-clause-within : goal.disch_known-requires-clause-within
disch_known-requires-clause-within c = rw c.in_ok-reached.ensures whole

pub disch_known-requires-clause-formula : goal.disch_known-requires-clause-formula
disch_known-requires-clause-formula c = rw c.in_ok-each.ensures (at_start c.args.defs.now (each_implies alpha predicate_variable q_variable) truth_type refl refl)

pub returns : goal.returns
returns c = rw (c.in_ok-reached.ensures, c.in_ok-each.ensures) at c.disch_known.ensures
