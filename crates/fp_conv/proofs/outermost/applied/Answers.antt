use Rattle.fp_conv.specs.Outermost.{in_application}
use Rattle.fp_conv.proofs.outermost.applied.Goals as goal

pub returns-in-None-arguments : goal.returns-in-None-arguments
returns-in-None-arguments c = in_application c.requires.none (rw c.in-None.is at c.requires.functions) (rw c.in-None-arguments.is at c.requires.arguments)
