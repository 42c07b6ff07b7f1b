use Rattle.std.proofs.Common.{refl}
use Rattle.fp_logic.proofs.implications.implied_from.Goals as goal

pub implication_meaning-requires-clause-first : goal.implication_meaning-requires-clause-first
implication_meaning-requires-clause-first c = c.requires.2

pub implication_meaning-requires-clause-second : goal.implication_meaning-requires-clause-second
implication_meaning-requires-clause-second c = c.requires.3

pub convert-requires : goal.convert-requires
convert-requires c = rw (c.in_ok-meaning.ensures, c.requires.1) (refl, c.requires.0, refl)

pub returns : goal.returns
returns c = rw c.in_ok-meaning.ensures at c.convert.ensures
