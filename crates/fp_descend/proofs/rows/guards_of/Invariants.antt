use Rattle.std.proofs.Common.{◌≡◌}
use Rattle.fp_descend.proofs.rows.guards_of.Given as goal

abbrev pub invariant-loop-guard : goal.invariant-loop-guard
invariant-loop-guard l = l.proof ≡ l.fn.proof
