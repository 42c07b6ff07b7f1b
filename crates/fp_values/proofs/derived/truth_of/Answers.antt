use Rattle.fp_conclude.specs.Outcomes.{gives}
use Rattle.fp_conclude.specs.Logic.{truth_type, equal, true_constant}
use Rattle.fp_retrace.proofs.Stood.{one_within}
use Rattle.fp_values.proofs.derived.truth_of.Goals as goal

pub returns : goal.returns
returns c =
    let a = c.args.theorem.now in
    one_within c.args.defs.now c.eqt.result c.given.result a a.hyps (gives (equal truth_type a.concl true_constant)) c.eqt.ensures c.given.ensures
