use Rattle.fp_quant.proofs.general.spec.Goals as goal

pub specialized_at-requires-clause-shape : goal.specialized_at-requires-clause-shape
specialized_at-requires-clause-shape c = rw (c.in-Some.is, c.concl.ensures.value) at c.in_ok-ty.ensures.exact

pub specialized_at-requires-clause-typed : goal.specialized_at-requires-clause-typed
specialized_at-requires-clause-typed c = rw c.signature.ensures at c.in_ok-of_term.ensures
