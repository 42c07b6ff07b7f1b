use Rattle.std.proofs.Common.{◌≡◌, ◌++◌, drop}
use Rattle.fp_cong_rule.specs.Reading.{variables_among}
use Rattle.fp_cong_rule.proofs.reading.variables_among.Given as goal

abbrev pub invariant-loop-term : goal.invariant-loop-term
invariant-loop-term l = l.vars ++ variables_among (drop l.term-index l.terms) ≡ variables_among l.terms
