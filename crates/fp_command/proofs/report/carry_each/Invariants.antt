use Rattle.std.proofs.Common.{drop, map}
use Rattle.fp_sources.specs.Sources.{source}
use Rattle.fp_command.specs.Outcome.{session}
use Rattle.fp_command.proofs.Carrying.{Carried}
use Rattle.fp_command.proofs.report.carry_each.Given as goal

abbrev pub invariant-loop-command : goal.invariant-loop-command
invariant-loop-command g l =
    Carried l.full l.name
    (session l.initial.theory (map (λ b. source ((goal.MeasureSource-dyn g (b.vtable, b.value)).habits b.value) ((goal.MeasureSource-dyn g (b.vtable, b.value)).entries b.value)) l.initial.sources))
    l.fn.commands
    (session l.theory (map (λ b. source ((goal.MeasureSource-dyn g (b.vtable, b.value)).habits b.value) ((goal.MeasureSource-dyn g (b.vtable, b.value)).entries b.value)) l.sources))
    (drop l.command-index l.commands) l.text.items
