use Rattle.std.proofs.Common.{length}
use Rattle.fp_group_tests.proofs.completion.+are_below.Given as goal

abbrev pub decreases-are_below : goal.decreases-are_below
decreases-are_below l = length l.clauses.now
