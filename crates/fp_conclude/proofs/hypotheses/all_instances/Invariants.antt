use Rattle.std.proofs.Common.{◌≡◌, drop}
use Rattle.std.specs.Prelude.{map}
use Rattle.fp_term.specs.Terms.{replaced}
use Rattle.fp_conclude.specs.Hypotheses.{union, all_replaced}
use Rattle.fp_conclude.proofs.hypotheses.all_instances.Given as goal

abbrev pub invariant-loop-term : goal.invariant-loop-term
invariant-loop-term l = all_replaced l.pairs l.terms ≡ union l.made (map (replaced l.pairs) (drop l.term-index l.terms))
