use Rattle.std.proofs.Common.{◌≡◌, ◌++◌, drop}
use Rattle.fp_spec.specs.Statements.{hidden_from}
use Rattle.fp_spec.proofs.statements.hidden_from.Given as goal

abbrev pub invariant-loop-head : goal.invariant-loop-head
invariant-loop-head l = l.vars ++ hidden_from l.known l.number (drop l.head-index l.heads) ≡ hidden_from l.known 5 l.heads
