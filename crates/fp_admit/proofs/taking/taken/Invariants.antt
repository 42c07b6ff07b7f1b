use Rattle.std.proofs.Common.{length, take}
use Rattle.fp_pattern.specs.Completed.{AreBelow}
use Rattle.fp_admit.specs.Admitted.{AreEach, IsClauseOf}
use Rattle.fp_admit.proofs.taking.taken.Given as goal

abbrev pub invariant-loop-term : goal.invariant-loop-term
invariant-loop-term l = AreEach (IsClauseOf l.exact) (take l.term-index l.terms) l.clauses × AreBelow (length l.exact) l.clauses
