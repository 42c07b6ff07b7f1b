use Rattle.std.proofs.Common.{◌≡◌, map}
use Rattle.fp_sources.specs.Sources.{source, told_each, told_one}
use Rattle.fp_sources.proofs.Telling.{once}
use Rattle.fp_sources.proofs.sources.tell_each.Given as goal

abbrev pub invariant-loop-source : goal.invariant-loop-source
invariant-loop-source g l =
    once (λ b. source ((goal.MeasureSource-dyn g (b.vtable, b.value)).habits b.value) ((goal.MeasureSource-dyn g (b.vtable, b.value)).entries b.value))
    (told_one l.decl.kind l.decl.ty l.decl.term) l.source-index l.sources ≡
    told_each l.decl.kind l.decl.ty l.decl.term
    (map (λ b. source ((goal.MeasureSource-dyn g (b.vtable, b.value)).habits b.value) ((goal.MeasureSource-dyn g (b.vtable, b.value)).entries b.value)) l.initial.sources)
