use Rattle.std.proofs.Common.{refl}
use Rattle.fp_logic.proofs.Begun.{from_nothing}
use Rattle.fp_logic.proofs.lemmas.lemma_at.Goals as goal

pub instance_of-requires-clause-whole : goal.instance_of-requires-clause-whole
instance_of-requires-clause-whole c = rw c.in_ok-theorem.ensures refl

pub instance_of-requires-clause-within : goal.instance_of-requires-clause-within
instance_of-requires-clause-within c = rw c.in_ok-theorem.ensures (from_nothing c.args.defs.now)

pub returns : goal.returns
returns c = rw c.in_ok-theorem.ensures at c.instance_of.ensures
