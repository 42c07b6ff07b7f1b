use Rattle.fp_conclude.proofs.Sets.{union_set, without_set}
use Rattle.fp_kernel.proofs.over.remaining.Goals as goal

pub returns-clause-set : goal.returns-clause-set
returns-clause-set c =
    rw (c.in_ok-hyps.ensures, c.as_slice.ensures)
    (union_set c.in_ok-left.left c.as_slice-2.result.now
    (rw c.in_ok-left.ensures (without_set c.concl.result.now c.hyps.result.now (rw c.hyps.ensures.value c.hyps.ensures.set))))
