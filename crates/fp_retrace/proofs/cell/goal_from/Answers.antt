use Rattle.fp_retrace.proofs.Proved.{proves, truth_equation}
use Rattle.fp_retrace.proofs.cell.goal_from.Goals as goal

pub eqt_elim_known-requires-clause-shape : goal.eqt_elim_known-requires-clause-shape
eqt_elim_known-requires-clause-shape c =
    truth_equation c.args.defs.now c.args.guards.now c.args.goal.now c.concl.result.now c.args.th.now c.requires c.concl.ensures.value c.concl.ensures.formula

pub returns : goal.returns
returns c = proves c.args.defs.now c.args.guards.now c.args.goal.now c.args.th.now c.eqt_elim_known.result c.requires c.eqt_elim_known.ensures
