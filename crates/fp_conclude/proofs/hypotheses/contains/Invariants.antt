use Rattle.std.proofs.Common.{◌≡◌, drop}
use Rattle.fp_conclude.specs.Hypotheses.{member}
use Rattle.fp_conclude.proofs.hypotheses.contains.Given as goal

abbrev pub invariant-loop-other : goal.invariant-loop-other
invariant-loop-other l = member l.term l.terms ≡ member l.term (drop l.other-index l.terms)
