use Rattle.std.proofs.Common.{◌≡◌, drop}
use Rattle.fp_kernel.specs.Theorems.{promise_union}
use Rattle.fp_kernel.proofs.promises.promise_union.Given as goal

abbrev pub invariant-loop-promise : goal.invariant-loop-promise
invariant-loop-promise l = promise_union l.first l.second ≡ promise_union l.promises (drop l.promise-index l.second)
