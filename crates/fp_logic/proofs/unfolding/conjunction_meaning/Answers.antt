use Rattle.fp_logic.proofs.unfolding.conjunction_meaning.Goals as goal

pub returns : goal.returns
returns c = c.lemma_at.ensures
