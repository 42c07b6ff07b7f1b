use Rattle.fp_term.specs.Terms.{Tm}
use Rattle.fp_conv.specs.Equations.{right_of}
use Rattle.fp_conv.specs.Normal.{Reduction}
use Rattle.fp_conv.specs.Passes.{NormalBy}
use Rattle.fp_conv.proofs.beta.beta_norm.Given as goal

abbrev pub invariant-loop : goal.invariant-loop
invariant-loop l = Reduction l.defs l.term l.made × ((v : Tm) → NormalBy (right_of l.made.concl) v → NormalBy l.term v)
