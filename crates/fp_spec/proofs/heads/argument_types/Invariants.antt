use Rattle.std.proofs.Common.{◌≡◌, ◌++◌, drop}
use Rattle.fp_spec.specs.Heads.{argument_types}
use Rattle.fp_spec.proofs.heads.argument_types.Given as goal

abbrev pub invariant-loop-head : goal.invariant-loop-head
invariant-loop-head l = l.tys ++ argument_types (drop l.head-index l.heads) ≡ argument_types l.heads
