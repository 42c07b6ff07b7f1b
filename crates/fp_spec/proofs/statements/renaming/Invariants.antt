use Rattle.std.proofs.Common.{◌≡◌, ◌++◌, drop}
use Rattle.fp_spec.specs.Statements.{renaming}
use Rattle.fp_spec.proofs.statements.renaming.Given as goal

abbrev pub invariant-loop-at : goal.invariant-loop-at
invariant-loop-at l = l.pairs ++ renaming (drop l.at l.vars) (drop l.at l.others) ≡ renaming l.vars l.others
