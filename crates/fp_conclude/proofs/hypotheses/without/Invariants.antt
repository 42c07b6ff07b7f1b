use Rattle.std.proofs.Common.{◌≡◌, ◌++◌, drop}
use Rattle.fp_conclude.specs.Hypotheses.{without}
use Rattle.fp_conclude.proofs.hypotheses.without.Given as goal

abbrev pub invariant-loop-other : goal.invariant-loop-other
invariant-loop-other l = without l.term l.terms ≡ l.rest ++ without l.term (drop l.other-index l.terms)
