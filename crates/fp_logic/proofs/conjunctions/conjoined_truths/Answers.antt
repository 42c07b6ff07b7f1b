use Rattle.std.proofs.Common.{refl}
use Rattle.fp_logic.proofs.conjunctions.conjoined_truths.Goals as goal

pub conjoined_sides-requires-clause-first : goal.conjoined_sides-requires-clause-first
conjoined_sides-requires-clause-first c = rw c.in_ok-first.ensures refl

pub conjoined_sides-requires-clause-second : goal.conjoined_sides-requires-clause-second
conjoined_sides-requires-clause-second c = rw c.in_ok-second.ensures refl

pub returns : goal.returns
returns c = rw (c.in_ok-first.ensures, c.in_ok-second.ensures) at c.conjoined_sides.ensures
