use Rattle.fp_conclude.specs.Rules.{lam_of}
use Rattle.fp_kernel.specs.Start.{signature_of}
use Rattle.fp_texts.proofs.Listed.{answered}
use Rattle.fp_texts.proofs.over.lam.Goals as goal

pub returns : goal.returns
returns c = answered c.args.defs.now c.args.given.now.promises c.args.given.now.hyps (lam_of (signature_of c.args.defs.now) c.args.name.now c.args.ty.now c.args.given.now.hyps c.args.given.now.concl) c.lam.result c.lam.ensures
