use Rattle.std.proofs.Common.{◌≡◌, ◌++◌, drop}
use Rattle.fp_spec.specs.Statements.{shown_from}
use Rattle.fp_spec.proofs.statements.shown_from.Given as goal

abbrev pub invariant-loop-head : goal.invariant-loop-head
invariant-loop-head l = l.vars ++ shown_from l.number (drop l.head-index l.heads) ≡ shown_from 1 l.heads
