use Rattle.std.proofs.Common.{refl}
use Rattle.fp_kernel.specs.Definitions.{whole}
use Rattle.fp_logic.proofs.holding.truth_itself.Goals as goal

pub establish-requires : goal.establish-requires
establish-requires c = rw c.in_ok-own.ensures (whole, whole, refl, refl, refl)

pub returns : goal.returns
returns c = rw c.in_ok-own.ensures at c.establish.ensures
