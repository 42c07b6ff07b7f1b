use Rattle.std.proofs.Common.{refl}
use Rattle.fp_disjunction.proofs.disjunctions.ways_at.Goals as goal

pub disjunction_meaning-requires-clause-first : goal.disjunction_meaning-requires-clause-first
disjunction_meaning-requires-clause-first c = c.requires.disjunction.2

pub disjunction_meaning-requires-clause-second : goal.disjunction_meaning-requires-clause-second
disjunction_meaning-requires-clause-second c = c.requires.disjunction.3

pub convert-requires : goal.convert-requires
convert-requires c = rw (c.in_ok-meaning.ensures, c.requires.disjunction.1) (refl, c.requires.disjunction.0, refl)

pub always_at-requires-clause-always : goal.always_at-requires-clause-always
always_at-requires-clause-always c = rw (c.in_ok-always.ensures, c.in_ok-meaning.ensures) refl

pub returns : goal.returns
returns c = rw (c.in_ok-always.ensures, c.in_ok-meaning.ensures) at c.always_at.ensures
