use Rattle.fp_kernel.proofs.Premises.{by_lam}
use Rattle.fp_kernel.proofs.defs.Defs.lam.Goals as goal

pub over_one-requires-clause-derived : goal.over_one-requires-clause-derived
over_one-requires-clause-derived c =
    rw (c.in_ok-hyps.ensures, c.hyps-2.ensures.value) (by_lam c.args.given.now c.concl.result.now c.in_ok-concl.concl c.requires c.concl.ensures.derived c.concl.ensures.value c.args.name.now c.args.ty.now (rw (c.signature.ensures, c.hyps.ensures.value) at c.in_ok-concl.ensures))
