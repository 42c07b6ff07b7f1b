use Rattle.std.proofs.Common.{length}
use Rattle.fp_values.proofs.value.+stands_before.Given as goal

abbrev pub decreases-stands_before : goal.decreases-stands_before
decreases-stands_before l = length l.names.now
