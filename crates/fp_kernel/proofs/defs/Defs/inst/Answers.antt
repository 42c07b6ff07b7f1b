use Rattle.fp_conclude.proofs.Sets.{replaced_set}
use Rattle.fp_kernel.proofs.Premises.{by_inst}
use Rattle.fp_kernel.proofs.defs.Defs.inst.Goals as goal

pub over_one-requires-clause-derived : goal.over_one-requires-clause-derived
over_one-requires-clause-derived c =
    rw c.in_ok-hyps.ensures (rw c.hyps.ensures.value (by_inst c.args.given.now c.concl.result.now c.in_ok-concl.concl c.requires c.concl.ensures.derived c.concl.ensures.value c.args.pairs.now (rw c.signature.ensures at c.in_ok-concl.ensures)))

pub over_one-requires-clause-set : goal.over_one-requires-clause-set
over_one-requires-clause-set c = rw c.in_ok-hyps.ensures (replaced_set c.args.pairs.now c.hyps.result.now)
