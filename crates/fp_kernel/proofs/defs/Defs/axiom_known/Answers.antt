use Rattle.fp_kernel.proofs.Started.{by_axiom}
use Rattle.fp_kernel.proofs.defs.Defs.axiom_known.Goals as goal

pub plain-requires-clause-derived : goal.plain-requires-clause-derived
plain-requires-clause-derived c = rw (c.new.ensures, c.in_ok-concl.ensures) (by_axiom c.args.self.now c.args.which)
