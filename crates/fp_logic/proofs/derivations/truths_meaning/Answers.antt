use Rattle.std.proofs.Common.{refl}
use Rattle.fp_conclude.specs.Logic.{truth_type, true_constant}
use Rattle.fp_logic.proofs.Concrete.{at_start}
use Rattle.fp_logic.proofs.derivations.truths_meaning.Goals as goal

pub instance-requires-clause-whole : goal.instance-requires-clause-whole
instance-requires-clause-whole c = rw c.in_ok-schema.ensures refl

pub instance-requires-clause-first : goal.instance-requires-clause-first
instance-requires-clause-first c = rw c.in_ok-truth.ensures (at_start c.args.defs.now true_constant truth_type refl refl)

pub instance-requires-clause-second : goal.instance-requires-clause-second
instance-requires-clause-second c = rw c.in_ok-truth.ensures (at_start c.args.defs.now true_constant truth_type refl refl)

pub returns : goal.returns
returns c = rw (c.in_ok-schema.ensures, c.in_ok-truth.ensures) at c.instance.ensures
