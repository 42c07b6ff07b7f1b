use Rattle.std.proofs.Common.{refl}
use Rattle.fp_kernel.specs.Definitions.{whole}
use Rattle.fp_quant.proofs.universal.always_from.Goals as goal

pub lam_known-requires : goal.lam_known-requires
lam_known-requires c = rw c.in_ok-equation.ensures (whole, c.requires.known, refl, c.requires.apart)

pub returns : goal.returns
returns c = rw c.in_ok-equation.ensures at c.lam_known.ensures
