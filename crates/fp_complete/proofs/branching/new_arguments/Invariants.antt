use Rattle.std.proofs.Common.{◌≡◌}
use Rattle.fp_complete.proofs.branching.new_arguments.Given as goal

abbrev pub invariant-loop : goal.invariant-loop
invariant-loop l = l.proof ≡ l.fn.proof
