use Rattle.std.proofs.Common.{refl}
use Rattle.fp_conclude.specs.Logic.{truth_type, predicate_type}
use Rattle.fp_forms.specs.Schemas.{identity}
use Rattle.fp_logic.proofs.Concrete.{at_start}
use Rattle.fp_disjunction.proofs.falsity.universal_identity.Goals as goal

pub universal-requires : goal.universal-requires
universal-requires c = rw c.in_ok-predicate.ensures (at_start c.args.defs.now identity (predicate_type truth_type) refl refl)

pub returns : goal.returns
returns c = rw c.in_ok-predicate.ensures at c.universal.ensures
