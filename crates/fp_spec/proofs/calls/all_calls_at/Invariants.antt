use Rattle.std.proofs.Common.{◌≡◌, ◌++◌, drop}
use Rattle.fp_spec.specs.Calls.{all_calls_at}
use Rattle.fp_spec.proofs.calls.all_calls_at.Given as goal

abbrev pub invariant-loop-term : goal.invariant-loop-term
invariant-loop-term l = l.made ++ all_calls_at l.heads l.by (drop l.term-index l.terms) ≡ all_calls_at l.heads l.by l.terms
