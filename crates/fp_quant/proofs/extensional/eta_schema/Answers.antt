use Rattle.std.proofs.Common.{refl}
use Rattle.fp_kernel.specs.Definitions.{whole}
use Rattle.fp_quant.proofs.extensional.eta_schema.Goals as goal

pub retyped_at_both-requires-clause-whole : goal.retyped_at_both-requires-clause-whole
retyped_at_both-requires-clause-whole c = rw c.in_ok-axiom.ensures refl

pub retyped_at_both-requires-clause-within : goal.retyped_at_both-requires-clause-within
retyped_at_both-requires-clause-within c = rw c.in_ok-axiom.ensures whole

pub returns : goal.returns
returns c = rw c.in_ok-axiom.ensures at c.retyped_at_both.ensures
