use Rattle.std.proofs.Common.{◌≡◌, ◌++◌, drop, map}
use Rattle.fp_spec.specs.Relations.{clause_part}
use Rattle.fp_spec.proofs.relations.some_clause.Given as goal

abbrev pub invariant-loop-clause : goal.invariant-loop-clause
invariant-loop-clause l = l.parts ++ map (clause_part l.heads l.h l.x l.y) (drop l.clause-index l.clauses) ≡ map (clause_part l.heads l.h l.x l.y) l.clauses
