use Rattle.fp_retrace.specs.Standing.{AreWithin}
use Rattle.fp_retrace.proofs.Stood.{stands_anyway}
use Rattle.fp_retrace.proofs.steps.guard.Goals as goal

pub returns-clause-stack : goal.returns-clause-stack
returns-clause-stack c =
    stands_anyway c.add_facts.result (AreWithin c.args.defs.now c.taken.new.stack) (c.in_ok-th.ensures.rest c.args.defs.now c.requires.stack)
