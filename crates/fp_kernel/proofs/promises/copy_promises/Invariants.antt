use Rattle.std.proofs.Common.{◌≡◌, take}
use Rattle.fp_kernel.proofs.promises.copy_promises.Given as goal

abbrev pub invariant-loop-promise : goal.invariant-loop-promise
invariant-loop-promise l = l.copies ≡ take l.promise-index l.promises
