use Rattle.std.proofs.Common.{length}
use Rattle.fp_outcome.proofs.parts.+sets_of.Given as goal

abbrev pub decreases-sets_of : goal.decreases-sets_of
decreases-sets_of l = length l.measures.now
