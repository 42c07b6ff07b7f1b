use Rattle.fp_logic.proofs.Shaped.{assumed_formula}
use Rattle.fp_logic.proofs.implications.disch.Goals as goal

pub disch_known-requires-clause-formula : goal.disch_known-requires-clause-formula
disch_known-requires-clause-formula c = (assumed_formula c.args.defs.now c.args.term.now c.in_ok-term.term (rw c.signature.ensures at c.in_ok-term.ensures)).1
