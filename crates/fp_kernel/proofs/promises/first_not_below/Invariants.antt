use Rattle.std.proofs.Common.{◌≡◌, drop}
use Rattle.fp_kernel.specs.Theorems.{first_not_below}
use Rattle.fp_kernel.proofs.promises.first_not_below.Given as goal

abbrev pub invariant-loop-promise : goal.invariant-loop-promise
invariant-loop-promise l = first_not_below l.number l.promises ≡ first_not_below l.number (drop l.promise-index l.promises)
