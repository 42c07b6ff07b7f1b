use Rattle.fp_meaning.proofs.summing.+add_injections.Given as goal

abbrev pub decreases-add_injections : goal.decreases-add_injections
decreases-add_injections l = l.index
