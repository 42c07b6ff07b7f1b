use Rattle.std.proofs.Common.{◌∙◌, sym}
use Rattle.fp_term.proofs.Equal.{term_eq-decides}
use Rattle.fp_conclude.specs.Logic.{false_constant}
use Rattle.fp_logic.proofs.Shaped.{assumed_formula}
use Rattle.fp_disjunction.proofs.falsity.false_elim.Goals as goal

pub false_elim_known-requires-clause-shape : goal.false_elim_known-requires-clause-shape
false_elim_known-requires-clause-shape c = sym c.concl.ensures.value ∙ (term_eq-decides c.concl.result.now false_constant).0 (sym c.in_ok-is_false.ensures ∙ c.if-not-branch.false)

pub false_elim_known-requires-clause-formula : goal.false_elim_known-requires-clause-formula
false_elim_known-requires-clause-formula c = (assumed_formula c.args.defs.now c.args.term.now c.in_ok-term.term (rw c.signature.ensures at c.in_ok-term.ensures)).1
