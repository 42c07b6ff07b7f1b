use Rattle.std.proofs.Common.{refl}
use Rattle.fp_logic.proofs.conjunctions.conj_known.Goals as goal

pub conclude_from-requires : goal.conclude_from-requires
conclude_from-requires c = rw c.in_ok-joined.ensures refl

pub returns : goal.returns
returns c = rw c.in_ok-joined.ensures at c.conclude_from.ensures
