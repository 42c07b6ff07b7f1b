use Rattle.std.proofs.Common.{refl}
use Rattle.fp_conclude.specs.Logic.{truth_type, conjunction, false_constant}
use Rattle.fp_kernel.specs.Definitions.{whole}
use Rattle.fp_forms.specs.Schemas.{p_variable}
use Rattle.fp_logic.proofs.Concrete.{at_start}
use Rattle.fp_disjunction.proofs.negation.falsity_from.Goals as goal

pub assume_known-requires : goal.assume_known-requires
assume_known-requires c = rw c.requires.both (at_start c.args.defs.now (conjunction p_variable false_constant) truth_type refl refl)

pub conjunct-requires : goal.conjunct-requires
conjunct-requires c =
    rw (c.in_ok-itself.ensures, c.requires.both, c.requires.term, c.requires.falsity) (whole, refl, at_start c.args.defs.now p_variable truth_type refl refl, at_start c.args.defs.now false_constant truth_type refl refl)

pub returns : goal.returns
returns c = rw (c.in_ok-itself.ensures, c.requires.both, c.requires.falsity) at c.conjunct.ensures
