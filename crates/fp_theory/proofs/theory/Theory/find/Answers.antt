use Rattle.std.proofs.Common.{subst, IfSome}
use Rattle.fp_theory.specs.State.{IsNoted}
use Rattle.fp_theory.proofs.Keeping.{noted_if}
use Rattle.fp_theory.proofs.theory.Theory.find.Goals as goal

pub returns-clause-noted : goal.returns-clause-noted
returns-clause-noted c =
    subst (λ s. IfSome c.find.result (λ th. IsNoted s.defs th.now)) c.self.view_is
    (noted_if c.self.inside.defs c.self.inside.named c.args.name.now c.find.result c.self.invariant.noted c.find.ensures)
