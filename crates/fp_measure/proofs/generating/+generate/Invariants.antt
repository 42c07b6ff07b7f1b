use Rattle.fp_term.specs.Types.{type_parts}
use Rattle.fp_measure.proofs.generating.+generate.Given as goal

abbrev pub decreases-generate : goal.decreases-generate
decreases-generate g l = type_parts l.ty.now
