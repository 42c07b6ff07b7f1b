use Rattle.std.proofs.Common.{length}
use Rattle.fp_values.proofs.value.+listed.Given as goal

abbrev pub decreases-listed : goal.decreases-listed
decreases-listed l = length l.types.now
