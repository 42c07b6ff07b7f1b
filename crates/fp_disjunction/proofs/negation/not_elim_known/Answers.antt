use Rattle.std.proofs.Common.{refl}
use Rattle.fp_disjunction.proofs.negation.not_elim_known.Goals as goal

pub negation_meaning-requires : goal.negation_meaning-requires
negation_meaning-requires c = c.requires.2

pub convert-requires : goal.convert-requires
convert-requires c = rw (c.in_ok-meaning.ensures, c.requires.1) (refl, c.requires.0, refl)

pub returns : goal.returns
returns c = rw c.in_ok-meaning.ensures at c.convert.ensures
