use Rattle.fp_fun.specs.Named.{AreNamed}
use Rattle.fp_fun.proofs.showing.show_simps.Given as goal

abbrev pub invariant-loop-index : goal.invariant-loop-index
invariant-loop-index l = AreNamed l.theory l.items
