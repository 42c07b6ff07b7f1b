use Rattle.std.proofs.Common.{◌≡◌, true, drop}
use Rattle.fp_conclude.specs.Checks.{fitting}
use Rattle.fp_conclude.proofs.checks.all_fit.Given as goal

abbrev pub invariant-loop-pair : goal.invariant-loop-pair
invariant-loop-pair l = fitting true l.pairs ≡ fitting l.fit (drop l.pair-index l.pairs)
