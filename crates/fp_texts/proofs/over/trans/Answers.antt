use Rattle.fp_conclude.specs.Hypotheses.{union}
use Rattle.fp_conclude.specs.Rules.{trans_of}
use Rattle.fp_kernel.specs.Theorems.{promise_union}
use Rattle.fp_texts.proofs.Listed.{answered}
use Rattle.fp_texts.proofs.over.trans.Goals as goal

pub returns : goal.returns
returns c = answered c.args.defs.now (promise_union c.args.first.now.promises c.args.second.now.promises) (union c.args.first.now.hyps c.args.second.now.hyps) (trans_of c.args.first.now.concl c.args.second.now.concl) c.trans.result c.trans.ensures
