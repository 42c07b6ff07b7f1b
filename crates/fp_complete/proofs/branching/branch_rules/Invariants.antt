use Rattle.std.proofs.Common.{◌≡◌}
use Rattle.fp_complete.proofs.branching.branch_rules.Given as goal

abbrev pub invariant-loop-at : goal.invariant-loop-at
invariant-loop-at l = l.proof ≡ l.fn.proof
