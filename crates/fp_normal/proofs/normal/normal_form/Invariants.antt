use Rattle.fp_term.specs.Terms.{Tm}
use Rattle.fp_conv.specs.Passes.{NormalBy}
use Rattle.fp_normal.proofs.normal.normal_form.Given as goal

abbrev pub invariant-loop : goal.invariant-loop
invariant-loop l = (v : Tm) → NormalBy l.made v → NormalBy l.term v
