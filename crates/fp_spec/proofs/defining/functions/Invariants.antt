use Rattle.std.proofs.Common.{◌≡◌, ◌++◌, drop}
use Rattle.fp_spec.specs.Defining.{functions_from}
use Rattle.fp_spec.proofs.defining.functions.Given as goal

abbrev pub invariant-loop-head : goal.invariant-loop-head
invariant-loop-head l = l.terms ++ functions_from l.heads l.number (drop l.head-index l.heads) ≡ functions_from l.heads 0 l.heads
