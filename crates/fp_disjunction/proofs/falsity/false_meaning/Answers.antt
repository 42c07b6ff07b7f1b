use Rattle.std.proofs.Common.{refl}
use Rattle.fp_kernel.specs.Definitions.{whole}
use Rattle.fp_disjunction.proofs.falsity.false_meaning.Goals as goal

pub trans_known-requires : goal.trans_known-requires
trans_known-requires c = rw (c.in_ok-meaning.ensures, c.in_ok-universal.ensures) (whole, whole, refl, refl)

pub returns : goal.returns
returns c = rw (c.in_ok-meaning.ensures, c.in_ok-universal.ensures) at c.trans_known.ensures
