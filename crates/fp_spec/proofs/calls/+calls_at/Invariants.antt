use Rattle.std.proofs.Common.{◌+◌, ◌*◌}
use Rattle.fp_term.specs.Terms.{size_of}
use Rattle.fp_spec.proofs.calls.+calls_at.Given as goal

abbrev pub decreases-calls_at : goal.decreases-calls_at
decreases-calls_at l = 2 * size_of l.term.now

abbrev pub decreases-calls_at_application : goal.decreases-calls_at_application
decreases-calls_at_application l = 2 * (size_of l.fun.now + size_of l.arg.now) + 1
