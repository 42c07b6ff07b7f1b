use Rattle.fp_conclude.proofs.Sets.{union_set}
use Rattle.fp_kernel.proofs.defs.Defs.over_both.Goals as goal

pub over_two-requires-clause-set : goal.over_two-requires-clause-set
over_two-requires-clause-set c =
    rw (c.in_ok-hyps.ensures, c.hyps.ensures.value, c.hyps-2.ensures.value)
    (union_set c.args.first.now.hyps c.args.second.now.hyps c.hyps.ensures.set)
