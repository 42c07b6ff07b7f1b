use Rattle.std.proofs.Common.{length}
use Rattle.fp_rewriting.specs.Fitting.{Passes}
use Rattle.fp_rewriting.proofs.fitting.first_fitting.Given as goal

abbrev pub invariant-loop-rule : goal.invariant-loop-rule
invariant-loop-rule l = Passes l.depth l.term l.rules l.rest

abbrev pub decreases-loop-rule : goal.decreases-loop-rule
decreases-loop-rule l = length l.rest
