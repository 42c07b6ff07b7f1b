use Rattle.fp_forms.specs.Schemas.{in_place}
use Rattle.fp_logic.proofs.Begun.{instance_plain}
use Rattle.fp_logic.proofs.instances.instance_of.Goals as goal

pub inst_known-requires : goal.inst_known-requires
inst_known-requires c = rw (c.in_ok-first.ensures, c.in_ok-pair.ensures) (c.requires.within, (c.requires.first, (c.requires.second, tt)))

pub returns : goal.returns
returns c =
    instance_plain c.args.defs.now c.args.th.now (in_place c.args.left.now c.args.right.now) c.inst_known.result c.requires.whole (rw (c.in_ok-first.ensures, c.in_ok-pair.ensures) at c.inst_known.ensures)
