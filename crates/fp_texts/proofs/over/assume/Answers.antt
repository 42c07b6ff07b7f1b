use Rattle.std.specs.Prelude.{[], ◌∷◌}
use Rattle.fp_conclude.specs.Rules.{assume_of}
use Rattle.fp_kernel.specs.Start.{signature_of}
use Rattle.fp_texts.proofs.Listed.{answered}
use Rattle.fp_texts.proofs.over.assume.Goals as goal

pub returns : goal.returns
returns c = answered c.args.defs.now [] (c.args.term.now ∷ []) (assume_of (signature_of c.args.defs.now) c.args.term.now) c.assume.result c.assume.ensures
