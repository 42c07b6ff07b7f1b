use Rattle.fp_logic.proofs.Shaped.{assumed_formula}
use Rattle.fp_disjunction.proofs.joining.disj2.Goals as goal

pub disj2_known-requires-clause-formula : goal.disj2_known-requires-clause-formula
disj2_known-requires-clause-formula c = (assumed_formula c.args.defs.now c.args.term.now c.in_ok-term.term (rw c.signature.ensures at c.in_ok-term.ensures)).1
