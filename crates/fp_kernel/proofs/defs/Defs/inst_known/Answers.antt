use Rattle.fp_conclude.proofs.Sets.{replaced_set}
use Rattle.fp_kernel.proofs.Unchecked.{by_inst}
use Rattle.fp_kernel.proofs.defs.Defs.inst_known.Goals as goal

pub over_one-requires-clause-derived : goal.over_one-requires-clause-derived
over_one-requires-clause-derived c =
    rw (c.in_ok-hyps.ensures, c.hyps.ensures.value, c.in_ok-concl.ensures, c.concl.ensures.value)
    (by_inst c.args.given.now c.concl.ensures.derived c.args.pairs.now c.requires)

pub over_one-requires-clause-set : goal.over_one-requires-clause-set
over_one-requires-clause-set c = rw c.in_ok-hyps.ensures (replaced_set c.args.pairs.now c.hyps.result.now)
