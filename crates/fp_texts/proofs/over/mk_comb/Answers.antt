use Rattle.fp_conclude.specs.Hypotheses.{union}
use Rattle.fp_conclude.specs.Rules.{mk_comb_of}
use Rattle.fp_kernel.specs.Theorems.{promise_union}
use Rattle.fp_texts.proofs.Listed.{answered}
use Rattle.fp_texts.proofs.over.mk_comb.Goals as goal

pub returns : goal.returns
returns c = answered c.args.defs.now (promise_union c.args.first.now.promises c.args.second.now.promises) (union c.args.first.now.hyps c.args.second.now.hyps) (mk_comb_of c.args.first.now.concl c.args.second.now.concl) c.mk_comb.result c.mk_comb.ensures
