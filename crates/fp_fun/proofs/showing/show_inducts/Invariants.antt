use Rattle.fp_fun.specs.Named.{AreNamed}
use Rattle.fp_fun.proofs.showing.show_inducts.Given as goal

abbrev pub invariant-loop-head : goal.invariant-loop-head
invariant-loop-head l = AreNamed l.theory l.items
