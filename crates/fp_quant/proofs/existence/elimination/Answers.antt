use Rattle.std.proofs.Common.{refl}
use Rattle.fp_conclude.specs.Logic.{truth_type, alpha}
use Rattle.fp_kernel.specs.Definitions.{whole}
use Rattle.fp_logic.proofs.Concrete.{at_start}
use Rattle.fp_forms.specs.Existence.{predicate_variable, some_such}
use Rattle.fp_quant.proofs.existence.elimination.Goals as goal

pub reaches_from-requires : goal.reaches_from-requires
reaches_from-requires c = c.in_ok-some.ensures

pub disch_known-requires-clause-within : goal.disch_known-requires-clause-within
disch_known-requires-clause-within c = rw c.in_ok-reaches.ensures whole

pub disch_known-requires-clause-formula : goal.disch_known-requires-clause-formula
disch_known-requires-clause-formula c = rw c.in_ok-some.ensures (at_start c.args.defs.now (some_such alpha predicate_variable) truth_type refl refl)

pub returns : goal.returns
returns c = rw (c.in_ok-reaches.ensures, c.in_ok-some.ensures) at c.disch_known.ensures
