use Rattle.std.proofs.Common.{◌≡◌, drop}
use Rattle.fp_conclude.specs.Hypotheses.{occurs_in_any}
use Rattle.fp_conclude.proofs.hypotheses.occurs_in_any.Given as goal

abbrev pub invariant-loop-term : goal.invariant-loop-term
invariant-loop-term l = occurs_in_any l.name l.ty l.terms ≡ occurs_in_any l.name l.ty (drop l.term-index l.terms)
