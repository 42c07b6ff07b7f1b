use Rattle.fp_logic.proofs.Begun.{instance_plain}
use Rattle.fp_quant.specs.Existence.{placed}
use Rattle.fp_quant.proofs.Placed.{plain_within}
use Rattle.fp_quant.proofs.placing.with_terms.Goals as goal

pub inst_known-requires : goal.inst_known-requires
inst_known-requires c = rw c.in_ok-for_predicate.ensures (plain_within c.args.defs.now c.args.th.now c.requires.whole, c.requires.typed)

pub returns : goal.returns
returns c =
    instance_plain c.args.defs.now c.args.th.now (placed c.args.ty.now c.args.predicate.now c.args.other.0 c.args.other.1 c.args.other.2) c.inst_known.result c.requires.whole
    (rw c.in_ok-for_predicate.ensures at c.inst_known.ensures)
