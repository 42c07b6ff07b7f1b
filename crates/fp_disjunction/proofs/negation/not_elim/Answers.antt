use Rattle.fp_disjunction.proofs.Negated.{negation_of}
use Rattle.fp_disjunction.proofs.negation.not_elim.Goals as goal

pub not_elim_known-requires : goal.not_elim_known-requires
not_elim_known-requires c = negation_of c.args.defs.now c.args.a.now c.in-Some.term.now c.requires c.concl.ensures.derived (rw (c.in-Some.is, c.concl.ensures.value) at c.in_ok-part.ensures)
