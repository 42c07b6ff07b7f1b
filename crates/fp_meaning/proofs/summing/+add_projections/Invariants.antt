use Rattle.fp_meaning.proofs.summing.+add_projections.Given as goal

abbrev pub decreases-add_projections : goal.decreases-add_projections
decreases-add_projections l = l.index
