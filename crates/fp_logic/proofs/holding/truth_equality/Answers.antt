use Rattle.std.proofs.Common.{refl}
use Rattle.fp_term.specs.Names.{equality}
use Rattle.fp_term.specs.Terms.{constant}
use Rattle.fp_conclude.specs.Logic.{truth_type, equality_type}
use Rattle.fp_logic.proofs.Concrete.{at_start}
use Rattle.fp_logic.proofs.holding.truth_equality.Goals as goal

pub equality_of-requires : goal.equality_of-requires
equality_of-requires c = rw c.in_ok-ty.ensures (at_start c.args.defs.now (constant equality (equality_type truth_type)) (equality_type truth_type) refl refl)

pub returns : goal.returns
returns c = rw c.in_ok-ty.ensures at c.equality_of.ensures
