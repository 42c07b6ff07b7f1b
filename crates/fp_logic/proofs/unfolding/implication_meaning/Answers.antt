use Rattle.fp_logic.proofs.unfolding.implication_meaning.Goals as goal

pub returns : goal.returns
returns c = c.lemma_at.ensures
