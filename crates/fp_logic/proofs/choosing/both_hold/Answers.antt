use Rattle.std.proofs.Common.{refl}
use Rattle.fp_logic.proofs.choosing.both_hold.Goals as goal

pub conjunction_meaning-requires-clause-first : goal.conjunction_meaning-requires-clause-first
conjunction_meaning-requires-clause-first c = c.requires.2

pub conjunction_meaning-requires-clause-second : goal.conjunction_meaning-requires-clause-second
conjunction_meaning-requires-clause-second c = c.requires.3

pub convert-requires : goal.convert-requires
convert-requires c = rw (c.in_ok-meaning.ensures, c.requires.1) (refl, c.requires.0, refl)

pub returns : goal.returns
returns c = rw c.in_ok-meaning.ensures at c.convert.ensures
