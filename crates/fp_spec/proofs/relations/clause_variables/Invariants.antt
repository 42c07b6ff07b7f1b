use Rattle.std.proofs.Common.{◌≡◌, drop}
use Rattle.fp_spec.specs.Relations.{with_all_variables, clause_variables}
use Rattle.fp_spec.proofs.relations.clause_variables.Given as goal

abbrev pub invariant-loop-pattern : goal.invariant-loop-pattern
invariant-loop-pattern l = with_all_variables l.vars (drop l.pattern-index l.clause.patterns) ≡ clause_variables l.clause
