use Rattle.fp_fun.specs.Named.{AreNamed}
use Rattle.fp_fun.proofs.showing.show_definitions.Given as goal

abbrev pub invariant-loop-name : goal.invariant-loop-name
invariant-loop-name l = AreNamed l.theory l.items
