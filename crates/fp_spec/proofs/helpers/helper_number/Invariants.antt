use Rattle.std.proofs.Common.{◌≡◌}
use Rattle.fp_spec.specs.Helpers.{helper_number}
use Rattle.fp_spec.proofs.helpers.helper_number.Given as goal

abbrev pub invariant-loop : goal.invariant-loop
invariant-loop l = l.number ≡ helper_number l.known l.counter
