use Rattle.std.proofs.Common.{refl}
use Rattle.fp_kernel.specs.Definitions.{whole}
use Rattle.fp_disjunction.proofs.negation.negation_schema.Goals as goal

pub unfold-requires : goal.unfold-requires
unfold-requires c = rw (c.in_ok-meaning.ensures, c.in_ok-own.ensures) ((whole, whole, refl, refl), refl)

pub returns : goal.returns
returns c = rw (c.in_ok-meaning.ensures, c.in_ok-own.ensures) at c.unfold.ensures
