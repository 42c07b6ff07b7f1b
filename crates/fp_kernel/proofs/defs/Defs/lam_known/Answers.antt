use Rattle.fp_kernel.proofs.Unchecked.{by_lam}
use Rattle.fp_kernel.proofs.defs.Defs.lam_known.Goals as goal

pub over_one-requires-clause-derived : goal.over_one-requires-clause-derived
over_one-requires-clause-derived c =
    rw (c.in_ok-hyps.ensures, c.hyps.ensures.value, c.in_ok-concl.ensures, c.concl.ensures.value)
    (by_lam c.args.given.now c.concl.ensures.derived c.args.name.now c.args.ty.now c.requires)
