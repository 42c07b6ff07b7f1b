use Rattle.fp_conclude.specs.Logic.{truth_type, equal}
use Rattle.fp_conclude.specs.Hypotheses.{union, without}
use Rattle.fp_conclude.specs.Outcomes.{gives}
use Rattle.fp_kernel.specs.Theorems.{promise_union}
use Rattle.fp_texts.proofs.Listed.{answered}
use Rattle.fp_texts.proofs.over.antisym.Goals as goal

pub returns : goal.returns
returns c = answered c.args.defs.now (promise_union c.args.first.now.promises c.args.second.now.promises) (union (without c.args.second.now.concl c.args.first.now.hyps) (without c.args.first.now.concl c.args.second.now.hyps)) (gives (equal truth_type c.args.first.now.concl c.args.second.now.concl)) c.antisym.result c.antisym.ensures
