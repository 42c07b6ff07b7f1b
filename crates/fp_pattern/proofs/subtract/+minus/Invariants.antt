use Rattle.std.proofs.Common.{◌+◌, ◌*◌, List, ◌++◌, drop}
use Rattle.fp_group.specs.declared.clause.Clause.{Clause}
use Rattle.fp_pattern.specs.Subtraction.{AreMinus}
use Rattle.fp_pattern.specs.Gaps.{gaps, most}
use Rattle.fp_pattern.proofs.subtract.+minus.Given as goal

abbrev pub decreases-minus : goal.decreases-minus
decreases-minus l = 2 * gaps l.clause.now.patterns l.q.now

abbrev pub decreases-minus_all : goal.decreases-minus_all
decreases-minus_all l = 2 * most l.clauses.now l.q.now + 1

-- with what is left of the other clauses, it is what is left of all
abbrev pub invariant-minus_all-loop-clause : goal.invariant-minus_all-loop-clause
invariant-minus_all-loop-clause l =
    (rest : List Clause) → AreMinus l.table l.signature l.function l.q (drop l.clause-index l.clauses) rest →
    AreMinus l.table l.signature l.function l.q l.clauses (l.left ++ rest)
