use Rattle.fp_conclude.specs.Hypotheses.{union}
use Rattle.fp_conclude.specs.Rules.{eq_mp_of}
use Rattle.fp_kernel.specs.Theorems.{promise_union}
use Rattle.fp_texts.proofs.Listed.{answered}
use Rattle.fp_texts.proofs.over.eq_mp.Goals as goal

pub returns : goal.returns
returns c = answered c.args.defs.now (promise_union c.args.first.now.promises c.args.second.now.promises) (union c.args.first.now.hyps c.args.second.now.hyps) (eq_mp_of c.args.first.now.concl c.args.second.now.concl) c.eq_mp.result c.eq_mp.ensures
