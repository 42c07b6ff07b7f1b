use Rattle.fp_kernel.specs.Derivability.{assume}
use Rattle.fp_kernel.proofs.defs.Defs.assume_known.Goals as goal

pub plain-requires-clause-derived : goal.plain-requires-clause-derived
plain-requires-clause-derived c = rw (c.in_ok-hyps.ensures, c.in_ok-copy.ensures) (assume c.args.term.now c.requires)
