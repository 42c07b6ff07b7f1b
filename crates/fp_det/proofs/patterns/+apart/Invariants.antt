use Rattle.fp_det.proofs.patterns.+apart.Given as goal

abbrev pub decreases-apart : goal.decreases-apart
decreases-apart l = l.levels
