use Rattle.std.proofs.Common.{◌≡◌, ◌++◌, drop}
use Rattle.fp_kernel.specs.Theorems.{without_promise}
use Rattle.fp_kernel.proofs.promises.without_promise.Given as goal

abbrev pub invariant-loop-other : goal.invariant-loop-other
invariant-loop-other l =
    without_promise (l.number, l.formula) l.promises ≡ l.rest ++ without_promise (l.number, l.formula) (drop l.other-index l.promises)
