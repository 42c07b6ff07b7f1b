use Rattle.std.proofs.Common.{◌≡◌}
use Rattle.fp_unify.specs.Candidates.{fresh_before}
use Rattle.fp_unify.proofs.naming.next_name.Given as goal

abbrev pub invariant-loop-place : goal.invariant-loop-place
invariant-loop-place l = fresh_before l.written l.place ≡ fresh_before l.written l.fn.next
