use Rattle.std.proofs.Common.{◌≡◌, drop}
use Rattle.fp_conclude.specs.Hypotheses.{union}
use Rattle.fp_conclude.proofs.hypotheses.union.Given as goal

abbrev pub invariant-loop-term : goal.invariant-loop-term
invariant-loop-term l = union l.first l.second ≡ union l.terms (drop l.term-index l.second)
