use Rattle.fp_kernel.proofs.Promised.{promises_set}
use Rattle.fp_kernel.proofs.defs.Defs.over_two.Goals as goal

pub theorem-requires-clause-promises_set : goal.theorem-requires-clause-promises_set
theorem-requires-clause-promises_set c =
    rw (c.in_ok-promises.ensures, c.promises.ensures.value, c.promises-2.ensures.value)
    (promises_set c.args.first.now.promises c.args.second.now.promises c.promises.ensures.set)
