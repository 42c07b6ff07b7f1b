use Rattle.std.proofs.Common.{refl}
use Rattle.fp_logic.proofs.Begun.{from_nothing}
use Rattle.fp_quant.proofs.placing.typed.Goals as goal

pub retyped_at-requires-clause-whole : goal.retyped_at-requires-clause-whole
retyped_at-requires-clause-whole c = rw c.in_ok-general.ensures refl

pub retyped_at-requires-clause-within : goal.retyped_at-requires-clause-within
retyped_at-requires-clause-within c = rw c.in_ok-general.ensures (from_nothing c.args.defs.now)
