use Rattle.std.proofs.Common.{refl}
use Rattle.fp_conclude.specs.Logic.{truth_type}
use Rattle.fp_kernel.specs.Definitions.{whole}
use Rattle.fp_logic.proofs.Concrete.{at_start}
use Rattle.fp_forms.specs.Existence.{holds}
use Rattle.fp_quant.proofs.existence.introduction.Goals as goal

pub some_from-requires : goal.some_from-requires
some_from-requires c = c.in_ok-held.ensures

pub disch_known-requires-clause-within : goal.disch_known-requires-clause-within
disch_known-requires-clause-within c = rw c.in_ok-some.ensures whole

pub disch_known-requires-clause-formula : goal.disch_known-requires-clause-formula
disch_known-requires-clause-formula c = rw c.in_ok-held.ensures (at_start c.args.defs.now holds truth_type refl refl)

pub returns : goal.returns
returns c = rw (c.in_ok-some.ensures, c.in_ok-held.ensures) at c.disch_known.ensures
