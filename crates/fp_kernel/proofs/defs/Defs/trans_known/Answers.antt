use Rattle.fp_kernel.proofs.Unchecked.{by_trans}
use Rattle.fp_kernel.proofs.defs.Defs.trans_known.Goals as goal

pub over_both-requires : goal.over_both-requires
over_both-requires c =
    by_trans c.args.first.now c.args.second.now c.concl.ensures.derived c.concl-2.ensures.derived c.requires c.in_ok-concl.concl
    (rw (c.concl.ensures.value, c.concl-2.ensures.value) at c.in_ok-concl.ensures)
