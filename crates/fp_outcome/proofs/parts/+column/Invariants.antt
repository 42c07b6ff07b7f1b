use Rattle.std.proofs.Common.{length}
use Rattle.fp_outcome.proofs.parts.+column.Given as goal

abbrev pub decreases-column : goal.decreases-column
decreases-column l = length l.measures.now
