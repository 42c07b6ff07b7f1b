use Rattle.std.specs.Prelude.{[]}
use Rattle.fp_conclude.specs.Rules.{beta_of}
use Rattle.fp_kernel.specs.Start.{signature_of}
use Rattle.fp_texts.proofs.Listed.{answered}
use Rattle.fp_texts.proofs.over.beta.Goals as goal

pub returns : goal.returns
returns c = answered c.args.defs.now [] [] (beta_of (signature_of c.args.defs.now) c.args.term.now) c.beta.result c.beta.ensures
