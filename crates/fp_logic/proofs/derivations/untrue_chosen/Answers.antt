use Rattle.std.proofs.Common.{refl}
use Rattle.fp_logic.proofs.Choosers.{chosen_typed}
use Rattle.fp_logic.proofs.derivations.untrue_chosen.Goals as goal

pub instance-requires-clause-whole : goal.instance-requires-clause-whole
instance-requires-clause-whole c = rw c.in_ok-schema.ensures refl

pub instance-requires-clause-first : goal.instance-requires-clause-first
instance-requires-clause-first c = rw c.in_ok-variable.ensures (chosen_typed c.args.defs.now c.args.first)

pub instance-requires-clause-second : goal.instance-requires-clause-second
instance-requires-clause-second c = rw c.in_ok-variable.ensures (chosen_typed c.args.defs.now c.args.first)

pub returns : goal.returns
returns c = rw (c.in_ok-schema.ensures, c.in_ok-variable.ensures) at c.instance.ensures
