use Rattle.fp_kernel.specs.Theorems.{without_promise}
use Rattle.fp_kernel.proofs.Promised.{promises_set, without_set}
use Rattle.fp_kernel.proofs.Cuts.{by_cut}
use Rattle.fp_kernel.proofs.defs.Defs.cut_known.Goals as goal

pub theorem-requires-clause-derived : goal.theorem-requires-clause-derived
theorem-requires-clause-derived c =
    rw (
      c.in_ok-promises.ensures,
      c.as_slice.ensures,
      c.in_ok-rest.ensures,
      c.concl.ensures.value,
      c.promises.ensures.value,
      c.promises-2.ensures.value,
      c.in_ok-hyps.ensures,
      c.hyps.ensures.value,
      c.in_ok-copy.ensures,
      c.concl-2.ensures.value,
    )
    (by_cut c.args.theorem.now c.args.number c.args.proof.now c.concl-2.ensures.derived c.concl.ensures.derived c.requires)

pub theorem-requires-clause-set : goal.theorem-requires-clause-set
theorem-requires-clause-set c = rw (c.in_ok-hyps.ensures, c.hyps.ensures.value) c.hyps.ensures.set

pub theorem-requires-clause-promises_set : goal.theorem-requires-clause-promises_set
theorem-requires-clause-promises_set c =
    rw (c.in_ok-promises.ensures, c.as_slice.ensures, c.in_ok-rest.ensures, c.concl.ensures.value, c.promises.ensures.value, c.promises-2.ensures.value)
    (promises_set (without_promise (c.args.number, c.args.proof.now.concl) c.args.theorem.now.promises) c.args.proof.now.promises
    (without_set (c.args.number, c.args.proof.now.concl) c.args.theorem.now.promises c.promises.ensures.set))
