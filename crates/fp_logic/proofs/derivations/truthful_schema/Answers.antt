use Rattle.std.proofs.Common.{refl}
use Rattle.fp_kernel.specs.Definitions.{whole}
use Rattle.fp_logic.proofs.derivations.truthful_schema.Goals as goal

pub trans_known-requires : goal.trans_known-requires
trans_known-requires c = rw (c.in_ok-held.ensures, c.in_ok-exchange.ensures) (whole, whole, refl, refl)

pub returns : goal.returns
returns c = rw (c.in_ok-held.ensures, c.in_ok-exchange.ensures) at c.trans_known.ensures
