use Rattle.std.proofs.Common.{refl}
use Rattle.fp_kernel.specs.Definitions.{whole}
use Rattle.fp_quant.proofs.existence.some_from.Goals as goal

pub reaches_all-requires : goal.reaches_all-requires
reaches_all-requires c = c.requires

pub fold-requires : goal.fold-requires
fold-requires c = rw (c.in_ok-meaning.ensures, c.in_ok-all.ensures) (refl, whole, refl)

pub returns : goal.returns
returns c = rw (c.in_ok-meaning.ensures, c.in_ok-all.ensures) at c.fold.ensures
