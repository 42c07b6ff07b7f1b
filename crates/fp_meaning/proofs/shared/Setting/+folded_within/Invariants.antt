use Rattle.fp_meaning.proofs.shared.Setting.+folded_within.Given as goal

abbrev pub decreases-folded_within : goal.decreases-folded_within
decreases-folded_within l = l.levels
