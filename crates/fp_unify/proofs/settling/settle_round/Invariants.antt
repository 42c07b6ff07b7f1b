use Rattle.std.proofs.Common.{drop}
use Rattle.fp_unify.specs.Settled.{Going}
use Rattle.fp_unify.proofs.settling.settle_round.Given as goal

abbrev pub invariant-loop-at : goal.invariant-loop-at
invariant-loop-at l = Going l.cells l.at-index l.initial.settled l.settled l.rest.items (drop l.at-index l.left)
