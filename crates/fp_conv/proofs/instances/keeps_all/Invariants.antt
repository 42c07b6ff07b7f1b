use Rattle.std.proofs.Common.{◌≡◌, drop}
use Rattle.fp_conv.specs.Outermost.{keeps_all}
use Rattle.fp_conv.proofs.instances.keeps_all.Given as goal

abbrev pub invariant-loop-term : goal.invariant-loop-term
invariant-loop-term l = keeps_all l.instance.types l.instance.terms l.terms ≡ keeps_all l.instance.types l.instance.terms (drop l.term-index l.terms)
