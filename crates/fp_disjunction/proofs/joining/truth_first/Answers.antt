use Rattle.std.proofs.Common.{refl}
use Rattle.fp_conclude.specs.Logic.{truth_type, true_constant}
use Rattle.fp_forms.specs.Schemas.{q_variable}
use Rattle.fp_logic.proofs.Concrete.{at_start}
use Rattle.fp_disjunction.proofs.joining.truth_first.Goals as goal

pub disjunction_meaning-requires-clause-first : goal.disjunction_meaning-requires-clause-first
disjunction_meaning-requires-clause-first c = rw c.in_ok-truth.ensures (at_start c.args.defs.now (true_constant) truth_type refl refl)

pub disjunction_meaning-requires-clause-second : goal.disjunction_meaning-requires-clause-second
disjunction_meaning-requires-clause-second c = rw c.in_ok-other.ensures (at_start c.args.defs.now (q_variable) truth_type refl refl)

pub returns : goal.returns
returns c = rw (c.in_ok-truth.ensures, c.in_ok-other.ensures) at c.disjunction_meaning.ensures
