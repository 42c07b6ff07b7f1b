use Rattle.std.proofs.Common.{◌≡◌, drop}
use Rattle.fp_shapes.specs.Binders.{at_variables}
use Rattle.fp_shapes.proofs.binders.at_variables.Given as goal

abbrev pub invariant-loop-name : goal.invariant-loop-name
invariant-loop-name l = at_variables l.made (drop l.name-index l.vars) ≡ at_variables l.head l.vars
