use Rattle.std.proofs.Common.{◌≡◌}
use Rattle.fp_pinduct.proofs.cases.call_facts.Given as goal

abbrev pub invariant-loop-guard : goal.invariant-loop-guard
invariant-loop-guard l = l.proof ≡ l.fn.proof
