use Rattle.std.proofs.Common.{◌≡◌, replicate}
use Rattle.fp_unify.specs.declared.table.Shape.TheVariants.{Open}
use Rattle.fp_unify.proofs.solving.all_open.Given as goal

abbrev pub invariant-loop : goal.invariant-loop
invariant-loop l = l.cells.items ≡ replicate l.counter Open
