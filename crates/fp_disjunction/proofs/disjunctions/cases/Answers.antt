use Rattle.std.proofs.Common.{◌∙◌, sym}
use Rattle.std.specs.Prelude.{codes}
use Rattle.fp_term.proofs.Equal.{term_eq-decides}
use Rattle.fp_logic.proofs.Shaped.{joined_parts}
use Rattle.fp_disjunction.proofs.disjunctions.cases.Goals as goal

pub cases_known-requires-clause-disjunction : goal.cases_known-requires-clause-disjunction
cases_known-requires-clause-disjunction c = joined_parts (codes "or") c.args.defs.now c.args.a.now (c.in-Some.left.now, c.in-Some.right.now) c.requires.first_within c.concl.ensures.derived (rw (c.in-Some.is, c.concl.ensures.value) at c.in_ok-parts.ensures)

pub cases_known-requires-clause-same : goal.cases_known-requires-clause-same
cases_known-requires-clause-same c = sym c.concl-2.ensures.value ∙ (term_eq-decides c.concl-2.result.now c.concl-3.result.now).0 (sym c.same.ensures.value ∙ c.if-not-same.false) ∙ c.concl-3.ensures.value
