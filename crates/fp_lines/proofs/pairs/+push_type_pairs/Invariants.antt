use Rattle.std.proofs.Common.{length}
use Rattle.fp_lines.proofs.pairs.+push_type_pairs.Given as goal

abbrev pub decreases-push_type_pairs : goal.decreases-push_type_pairs
decreases-push_type_pairs l = length l.args.now
