use Rattle.std.proofs.Common.{◌≡◌, ◌++◌, drop}
use Rattle.fp_spec.specs.Helpers.{names_in_clauses}
use Rattle.fp_spec.proofs.helpers.add_names_in_clauses.Given as goal

abbrev pub invariant-loop-clause : goal.invariant-loop-clause
invariant-loop-clause l = l.names ++ names_in_clauses (drop l.clause-index l.clauses) ≡ l.initial.names ++ names_in_clauses l.clauses
