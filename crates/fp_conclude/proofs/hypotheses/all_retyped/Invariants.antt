use Rattle.std.proofs.Common.{◌≡◌, drop}
use Rattle.std.specs.Prelude.{map}
use Rattle.fp_term.specs.Terms.{retyped_term}
use Rattle.fp_conclude.specs.Hypotheses.{union, all_retyped_terms}
use Rattle.fp_conclude.proofs.hypotheses.all_retyped.Given as goal

abbrev pub invariant-loop-term : goal.invariant-loop-term
invariant-loop-term l = all_retyped_terms l.pairs l.terms ≡ union l.made (map (retyped_term l.pairs) (drop l.term-index l.terms))
