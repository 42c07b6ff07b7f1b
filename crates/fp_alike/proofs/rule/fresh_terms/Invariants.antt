use Rattle.std.proofs.Common.{◌≡◌}
use Rattle.fp_alike.proofs.rule.fresh_terms.Given as goal

abbrev pub invariant-loop-var : goal.invariant-loop-var
invariant-loop-var l = l.proof ≡ l.fn.proof
