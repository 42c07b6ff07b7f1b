use Rattle.std.proofs.Common.{refl}
use Rattle.fp_conclude.specs.Logic.{truth_type, conjunction, false_constant}
use Rattle.fp_kernel.specs.Definitions.{whole}
use Rattle.fp_forms.specs.Schemas.{p_variable}
use Rattle.fp_logic.proofs.Concrete.{at_start}
use Rattle.fp_disjunction.proofs.negation.from_falsity.Goals as goal

pub assume_known-requires : goal.assume_known-requires
assume_known-requires c = rw c.requires.falsity (at_start c.args.defs.now false_constant truth_type refl refl)

pub false_elim_known-requires-clause-within : goal.false_elim_known-requires-clause-within
false_elim_known-requires-clause-within c = rw c.in_ok-itself.ensures whole

pub false_elim_known-requires-clause-shape : goal.false_elim_known-requires-clause-shape
false_elim_known-requires-clause-shape c = rw (c.in_ok-itself.ensures, c.requires.falsity) refl

pub false_elim_known-requires-clause-formula : goal.false_elim_known-requires-clause-formula
false_elim_known-requires-clause-formula c = rw c.requires.both (at_start c.args.defs.now (conjunction p_variable false_constant) truth_type refl refl)

pub returns : goal.returns
returns c = rw (c.in_ok-itself.ensures, c.requires.falsity, c.requires.both) at c.false_elim_known.ensures
