use Rattle.fp_kernel.specs.Views.{links_left}
use Rattle.fp_kernel.proofs.definition.Definitions.drop.Given as goal

abbrev pub decreases-loop-rest : goal.decreases-loop-rest
decreases-loop-rest l = links_left l.rest
