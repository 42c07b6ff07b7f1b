use Rattle.std.proofs.Common.{refl}
use Rattle.fp_kernel.specs.Definitions.{whole}
use Rattle.fp_quant.proofs.universal.universal_schema.Goals as goal

pub retyped_at-requires-clause-whole : goal.retyped_at-requires-clause-whole
retyped_at-requires-clause-whole c = rw c.in_ok-meaning.ensures refl

pub retyped_at-requires-clause-within : goal.retyped_at-requires-clause-within
retyped_at-requires-clause-within c = rw c.in_ok-meaning.ensures whole

pub returns : goal.returns
returns c = rw c.in_ok-meaning.ensures at c.retyped_at.ensures
