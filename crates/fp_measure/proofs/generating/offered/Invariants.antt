use Rattle.std.proofs.Common.{◌≡◌, ◌++◌, drop, map}
use Rattle.fp_measure.specs.Sources.{AreMeasures}
use Rattle.fp_measure.specs.Generating.{offered}
use Rattle.fp_measure.proofs.generating.offered.Given as goal

abbrev pub invariant-loop-source : goal.invariant-loop-source
invariant-loop-source g l =
    (l.all ++ offered (map (λ b. (goal.MeasureSource-dyn g (b.vtable, b.value)).entries b.value) (drop l.source-index l.sources)) l.ty ≡
    offered (map (λ b. (goal.MeasureSource-dyn g (b.vtable, b.value)).entries b.value) l.sources) l.ty) × AreMeasures l.ty l.all
