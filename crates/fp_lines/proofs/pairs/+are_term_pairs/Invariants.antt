use Rattle.std.proofs.Common.{length}
use Rattle.fp_lines.proofs.pairs.+are_term_pairs.Given as goal

abbrev pub decreases-are_term_pairs : goal.decreases-are_term_pairs
decreases-are_term_pairs l = length l.args.now
