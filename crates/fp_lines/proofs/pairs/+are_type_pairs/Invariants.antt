use Rattle.std.proofs.Common.{length}
use Rattle.fp_lines.proofs.pairs.+are_type_pairs.Given as goal

abbrev pub decreases-are_type_pairs : goal.decreases-are_type_pairs
decreases-are_type_pairs l = length l.args.now
