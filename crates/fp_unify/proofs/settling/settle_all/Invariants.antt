use Rattle.fp_unify.specs.Settled.{Between}
use Rattle.fp_unify.proofs.settling.settle_all.Given as goal

abbrev pub invariant-loop-before : goal.invariant-loop-before
invariant-loop-before l = Between l.cells l.before l.settled l.left.items

abbrev pub decreases-loop-before : goal.decreases-loop-before
decreases-loop-before l = l.before
