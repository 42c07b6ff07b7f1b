use Rattle.std.proofs.Common.{refl}
use Rattle.fp_kernel.specs.Definitions.{whole}
use Rattle.fp_disjunction.proofs.disjunctions.quantified_schema.Goals as goal

pub unfold_twice-requires : goal.unfold_twice-requires
unfold_twice-requires c = rw c.in_ok-meaning.ensures (refl, ((whole, whole, refl, refl), refl), ((whole, whole, refl, refl), refl))

pub returns : goal.returns
returns c = rw c.in_ok-meaning.ensures at c.unfold_twice.ensures
