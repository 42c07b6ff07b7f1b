use Rattle.std.proofs.Common.{◌≡◌, drop}
use Rattle.fp_cong.specs.Spines.{callee_from}
use Rattle.fp_spec.proofs.calls.callee_if.Given as goal

abbrev pub invariant-loop-head : goal.invariant-loop-head
invariant-loop-head l = callee_from l.number (drop l.head-index l.heads) l.name ≡ callee_from 0 l.heads l.name
