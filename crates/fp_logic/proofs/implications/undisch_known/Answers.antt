use Rattle.std.proofs.Common.{refl}
use Rattle.fp_kernel.specs.Definitions.{whole}
use Rattle.fp_logic.proofs.implications.undisch_known.Goals as goal

pub assume_known-requires : goal.assume_known-requires
assume_known-requires c = c.requires.2

pub modus-requires-clause-implication : goal.modus-requires-clause-implication
modus-requires-clause-implication c = c.requires

pub modus-requires-clause-within : goal.modus-requires-clause-within
modus-requires-clause-within c = rw c.in_ok-itself.ensures whole

pub modus-requires-clause-premise : goal.modus-requires-clause-premise
modus-requires-clause-premise c = rw c.in_ok-itself.ensures refl

pub returns : goal.returns
returns c = rw c.in_ok-itself.ensures at c.modus.ensures
