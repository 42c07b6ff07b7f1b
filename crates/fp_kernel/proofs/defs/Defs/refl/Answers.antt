use Rattle.fp_kernel.proofs.Sound.{refl_sound}
use Rattle.fp_kernel.proofs.defs.Defs.refl.Goals as goal

pub plain-requires-clause-derived : goal.plain-requires-clause-derived
plain-requires-clause-derived c =
    rw c.new.ensures (refl_sound c.args.term.now c.in_ok-concl.concl (rw c.signature.ensures at c.in_ok-concl.ensures))
