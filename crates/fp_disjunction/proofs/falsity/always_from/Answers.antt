use Rattle.std.proofs.Common.{refl}
use Rattle.fp_disjunction.proofs.falsity.always_from.Goals as goal

pub convert-requires : goal.convert-requires
convert-requires c = rw (c.in_ok-meaning.ensures, c.requires.shape) (refl, c.requires.within, refl)

pub returns : goal.returns
returns c = rw c.in_ok-meaning.ensures at c.convert.ensures
