use Rattle.std.proofs.Common.{drop}
use Rattle.fp_unify.specs.Solved.{AddsSome}
use Rattle.fp_unify.proofs.solving.add_all.Given as goal

abbrev pub invariant-loop-pair : goal.invariant-loop-pair
invariant-loop-pair l = AddsSome l.limit l.initial.cells l.facts l.cells (drop l.pair-index l.facts)
