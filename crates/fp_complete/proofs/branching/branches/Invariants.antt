use Rattle.std.proofs.Common.{◌≡◌}
use Rattle.fp_complete.proofs.branching.branches.Given as goal

abbrev pub invariant-loop-name : goal.invariant-loop-name
invariant-loop-name l = l.proof ≡ l.fn.proof
