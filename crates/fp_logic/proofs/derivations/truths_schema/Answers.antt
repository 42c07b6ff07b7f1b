use Rattle.std.proofs.Common.{refl}
use Rattle.fp_kernel.specs.Definitions.{whole}
use Rattle.fp_logic.proofs.derivations.truths_schema.Goals as goal

pub fold-requires : goal.fold-requires
fold-requires c = rw (c.in_ok-meaning.ensures, c.in_ok-own.ensures) (refl, whole, refl)

pub returns : goal.returns
returns c = rw (c.in_ok-meaning.ensures, c.in_ok-own.ensures) at c.fold.ensures
