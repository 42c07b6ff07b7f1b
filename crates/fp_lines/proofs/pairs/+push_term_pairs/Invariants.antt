use Rattle.std.proofs.Common.{length}
use Rattle.fp_lines.proofs.pairs.+push_term_pairs.Given as goal

abbrev pub decreases-push_term_pairs : goal.decreases-push_term_pairs
decreases-push_term_pairs l = length l.args.now
