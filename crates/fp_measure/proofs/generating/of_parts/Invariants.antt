use Rattle.std.proofs.Common.{take, map}
use Rattle.fp_measure.specs.Generating.{of_part, AreNormalForms}
use Rattle.fp_measure.proofs.generating.of_parts.Given as goal

abbrev pub invariant-loop-measure : goal.invariant-loop-measure
invariant-loop-measure l = AreNormalForms (map (of_part l.pair l.projection) (take l.measure-index l.measures)) l.made
