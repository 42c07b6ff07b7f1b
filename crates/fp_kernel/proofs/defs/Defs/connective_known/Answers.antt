use Rattle.fp_kernel.proofs.Started.{by_definition}
use Rattle.fp_kernel.proofs.defs.Defs.connective_known.Goals as goal

pub plain-requires-clause-derived : goal.plain-requires-clause-derived
plain-requires-clause-derived c =
    rw (c.new.ensures, c.in_ok-concl.ensures) (by_definition c.args.self.now c.args.constant)
