use Rattle.fp_outcome.specs.Shown.{ListsHaveOnly}
use Rattle.fp_fun.proofs.searching.all_measures.Given as goal

abbrev pub invariant-loop-head : goal.invariant-loop-head
invariant-loop-head g l = ListsHaveOnly l.all
