use Rattle.fp_kernel.proofs.Sound.{assume_sound}
use Rattle.fp_kernel.proofs.defs.Defs.assume.Goals as goal

pub plain-requires-clause-derived : goal.plain-requires-clause-derived
plain-requires-clause-derived c =
    rw c.in_ok-hyps.ensures (assume_sound c.args.term.now c.in_ok-concl.concl (rw c.signature.ensures at c.in_ok-concl.ensures))
