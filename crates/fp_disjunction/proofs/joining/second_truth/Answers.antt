use Rattle.std.proofs.Common.{refl}
use Rattle.fp_logic.proofs.Begun.{from_nothing}
use Rattle.fp_disjunction.proofs.joining.second_truth.Goals as goal

pub instance_of-requires-clause-whole : goal.instance_of-requires-clause-whole
instance_of-requires-clause-whole c = rw c.in_ok-schema.ensures refl

pub instance_of-requires-clause-within : goal.instance_of-requires-clause-within
instance_of-requires-clause-within c = rw c.in_ok-schema.ensures (from_nothing c.args.defs.now)

pub instance_of-requires-clause-first : goal.instance_of-requires-clause-first
instance_of-requires-clause-first c = c.requires

pub instance_of-requires-clause-second : goal.instance_of-requires-clause-second
instance_of-requires-clause-second c = c.requires

pub returns : goal.returns
returns c = rw c.in_ok-schema.ensures at c.instance_of.ensures
