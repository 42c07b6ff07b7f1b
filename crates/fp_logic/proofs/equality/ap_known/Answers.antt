use Rattle.std.proofs.Common.{refl}
use Rattle.fp_term.specs.Typing.{function_type}
use Rattle.fp_kernel.specs.Definitions.{whole}
use Rattle.fp_conclude.specs.Shapes.{side_type}
use Rattle.fp_logic.proofs.Applied.{ap_gives}
use Rattle.fp_logic.proofs.equality.ap_known.Goals as goal

pub refl_known-requires : goal.refl_known-requires
refl_known-requires c = (function_type (side_type c.args.a.now.concl) c.requires.typed.0, c.requires.typed.1)

pub mk_comb_known-requires : goal.mk_comb_known-requires
mk_comb_known-requires c =
    rw (c.in_ok-own.ensures (function_type (side_type c.args.a.now.concl) c.requires.typed.0) c.requires.typed.1.typed)
    (whole, c.requires.within, refl, c.requires.equation)

pub returns : goal.returns
returns c =
    ap_gives c.args.defs.now c.args.a.now c.in_ok-own.own c.args.term.now c.mk_comb_known.result c.in_ok-own.ensures c.hyps-hyps.ensures.set c.promises-promises.ensures.set c.mk_comb_known.ensures
