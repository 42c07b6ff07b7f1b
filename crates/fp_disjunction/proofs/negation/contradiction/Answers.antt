use Rattle.std.proofs.Common.{refl}
use Rattle.fp_disjunction.proofs.negation.contradiction.Goals as goal

pub instance-requires-clause-whole : goal.instance-requires-clause-whole
instance-requires-clause-whole c = rw c.in_ok-schema.ensures refl

pub returns : goal.returns
returns c = rw c.in_ok-schema.ensures at c.instance.ensures
