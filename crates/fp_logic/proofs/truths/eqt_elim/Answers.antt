use Rattle.fp_logic.proofs.Shaped.{untrue_shape}
use Rattle.fp_logic.proofs.truths.eqt_elim.Goals as goal

pub eqt_elim_known-requires-clause-shape : goal.eqt_elim_known-requires-clause-shape
eqt_elim_known-requires-clause-shape c = untrue_shape c.args.defs.now c.args.a.now c.in_ok-concl.concl c.requires c.concl.ensures.derived (rw c.concl.ensures.value at c.in_ok-concl.ensures)
