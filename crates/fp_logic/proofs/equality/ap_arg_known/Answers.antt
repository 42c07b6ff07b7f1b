use Rattle.std.proofs.Common.{refl}
use Rattle.fp_kernel.specs.Definitions.{whole}
use Rattle.fp_logic.proofs.equality.ap_arg_known.Goals as goal

pub refl_known-requires : goal.refl_known-requires
refl_known-requires c = (c.requires.typed.0, c.requires.typed.1)

pub mk_comb_known-requires : goal.mk_comb_known-requires
mk_comb_known-requires c = rw (c.in_ok-own.ensures c.requires.typed.0 c.requires.typed.1.typed) (c.requires.within, whole, c.requires.typed.2, refl)

pub returns : goal.returns
returns c = rw (c.in_ok-own.ensures c.requires.typed.0 c.requires.typed.1.typed) at c.mk_comb_known.ensures
