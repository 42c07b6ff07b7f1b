use Rattle.fp_conclude.specs.Logic.{truth_type, true_constant, equal}
use Rattle.fp_conclude.specs.Outcomes.{gives}
use Rattle.fp_retrace.proofs.Stood.{one_within}
use Rattle.fp_retrace.proofs.moves.truth_of.Goals as goal

pub returns : goal.returns
returns c =
    one_within c.args.defs.now c.eqt.result c.given.result c.args.th.now c.args.th.now.hyps (gives (equal truth_type c.args.th.now.concl true_constant)) c.eqt.ensures c.given.ensures
