use Rattle.std.proofs.Common.{◌≡◌, ◌++◌, drop}
use Rattle.fp_spec.specs.Heads.{result_types}
use Rattle.fp_spec.proofs.heads.result_types.Given as goal

abbrev pub invariant-loop-head : goal.invariant-loop-head
invariant-loop-head l = l.tys ++ result_types (drop l.head-index l.heads) ≡ result_types l.heads
