use Rattle.std.proofs.Common.{◌≡◌, drop}
use Rattle.fp_kernel.specs.Theorems.{promised}
use Rattle.fp_kernel.proofs.promises.is_promised.Given as goal

abbrev pub invariant-loop-other : goal.invariant-loop-other
invariant-loop-other l = promised (l.number, l.formula) l.promises ≡ promised (l.number, l.formula) (drop l.other-index l.promises)
