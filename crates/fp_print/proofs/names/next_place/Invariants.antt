use Rattle.std.proofs.Common.{◌≡◌, drop}
use Rattle.fp_print.specs.Names.{next_place}
use Rattle.fp_print.proofs.names.next_place.Given as goal

abbrev pub invariant-loop-step : goal.invariant-loop-step
invariant-loop-step l = next_place l.used (drop l._step-index l.used) l.place ≡ next_place l.used l.used l.from
