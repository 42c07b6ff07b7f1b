use Rattle.std.proofs.Common.{length}
use Rattle.fp_values.proofs.value.+given_for.Given as goal

abbrev pub decreases-given_for : goal.decreases-given_for
decreases-given_for l = length l.args.now
