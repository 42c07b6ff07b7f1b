use Rattle.std.proofs.Common.{refl}
use Rattle.fp_logic.proofs.implications.conjunction_from.Goals as goal

pub lemma_at-requires-clause-first : goal.lemma_at-requires-clause-first
lemma_at-requires-clause-first c = c.requires.2

pub lemma_at-requires-clause-second : goal.lemma_at-requires-clause-second
lemma_at-requires-clause-second c = c.requires.3

pub convert-requires : goal.convert-requires
convert-requires c = rw (c.in_ok-meaning.ensures, c.requires.1) (refl, c.requires.0, refl)

pub returns : goal.returns
returns c = rw c.in_ok-meaning.ensures at c.convert.ensures
