use Rattle.fp_retrace.specs.Standing.{AreWithin}
use Rattle.fp_retrace.proofs.steps.carried_out.Given as goal

abbrev pub invariant-loop-step : goal.invariant-loop-step
invariant-loop-step l = AreWithin l.defs l.facts × AreWithin l.defs l.stack
