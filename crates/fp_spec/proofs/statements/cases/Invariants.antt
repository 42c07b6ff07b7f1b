use Rattle.std.proofs.Common.{◌≡◌, ◌++◌, drop}
use Rattle.fp_spec.specs.Statements.{cases_from}
use Rattle.fp_spec.proofs.statements.cases.Given as goal

abbrev pub invariant-loop-clause : goal.invariant-loop-clause
invariant-loop-clause l = l.cases ++ cases_from l.partial l.predicates l.group l.number (drop l.clause-index l.clauses) ≡ cases_from l.partial l.predicates l.group 0 l.group.clauses
