use Rattle.fp_kernel.proofs.Premises.{by_antisym}
use Rattle.fp_kernel.proofs.defs.Defs.antisym_known.Goals as goal

pub over_two-requires-clause-derived : goal.over_two-requires-clause-derived
over_two-requires-clause-derived c =
    rw (c.in_ok-hyps.ensures.value, c.in_ok-concl.ensures, c.concl.ensures.value, c.concl-2.ensures.value)
    (by_antisym c.args.first.now c.args.second.now c.requires.0 c.requires.1 c.concl.ensures.derived c.concl-2.ensures.derived)

pub over_two-requires-clause-set : goal.over_two-requires-clause-set
over_two-requires-clause-set c = c.in_ok-hyps.ensures.set
