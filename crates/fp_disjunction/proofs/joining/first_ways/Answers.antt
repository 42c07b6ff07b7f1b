use Rattle.std.proofs.Common.{refl}
use Rattle.fp_disjunction.proofs.joining.first_ways.Goals as goal

pub generalized-requires : goal.generalized-requires
generalized-requires c = rw c.in_ok-way.ensures refl

pub returns : goal.returns
returns c = rw c.in_ok-way.ensures at c.generalized.ensures
