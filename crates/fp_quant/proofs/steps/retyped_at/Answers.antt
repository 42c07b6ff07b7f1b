use Rattle.fp_logic.proofs.Begun.{type_instance_plain}
use Rattle.fp_quant.specs.Meanings.{for_alpha}
use Rattle.fp_quant.proofs.steps.retyped_at.Goals as goal

pub inst_ty_known-requires : goal.inst_ty_known-requires
inst_ty_known-requires c = rw c.in_ok-for_alpha.ensures (c.requires.within, (c.requires.known, tt))

pub returns : goal.returns
returns c = type_instance_plain c.args.defs.now c.args.th.now (for_alpha c.args.ty.now) c.inst_ty_known.result c.requires.whole (rw c.in_ok-for_alpha.ensures at c.inst_ty_known.ensures)
