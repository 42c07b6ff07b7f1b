use Rattle.std.proofs.Common.{refl}
use Rattle.fp_disjunction.proofs.negation.not_intro_known.Goals as goal

pub negation_meaning-requires : goal.negation_meaning-requires
negation_meaning-requires c = c.requires.2

pub fold-requires : goal.fold-requires
fold-requires c = rw c.in_ok-meaning.ensures (refl, c.requires.0, c.requires.1)

pub returns : goal.returns
returns c = rw c.in_ok-meaning.ensures at c.fold.ensures
