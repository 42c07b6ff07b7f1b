use Rattle.fp_logic.proofs.Begun.{type_instance_plain}
use Rattle.fp_quant.specs.Meanings.{for_both}
use Rattle.fp_quant.proofs.steps.retyped_at_both.Goals as goal

pub inst_ty_known-requires : goal.inst_ty_known-requires
inst_ty_known-requires c = rw (c.in_ok-alpha.ensures, c.in_ok-for_beta.ensures) (c.requires.within, (c.requires.first, (c.requires.second, tt)))

pub returns : goal.returns
returns c =
    type_instance_plain c.args.defs.now c.args.th.now (for_both c.args.first.now c.args.second.now) c.inst_ty_known.result c.requires.whole
    (rw (c.in_ok-alpha.ensures, c.in_ok-for_beta.ensures) at c.inst_ty_known.ensures)
