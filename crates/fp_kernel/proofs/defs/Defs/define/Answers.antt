use Rattle.fp_kernel.specs.Defining.{defining}
use Rattle.fp_kernel.proofs.Defined.{new_made, only_for_memory}
use Rattle.fp_kernel.proofs.defs.Defs.define.Goals as goal

pub returns-clause-only : goal.returns-clause-only
returns-clause-only c =
    λ s h. only_for_memory c.make-answer.result (defining c.args.self.now c.args.name.now c.args.body.now) s c.make-answer.ensures.refused
    (new_made c.args.self.now c.args.name.now c.args.body.now s h)
