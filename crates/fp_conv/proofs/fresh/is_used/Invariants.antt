use Rattle.std.proofs.Common.{◌≡◌, drop}
use Rattle.fp_conv.specs.Outermost.{is_used}
use Rattle.fp_conv.proofs.fresh.is_used.Given as goal

abbrev pub invariant-loop-term : goal.invariant-loop-term
invariant-loop-term l = is_used l.name l.terms ≡ is_used l.name (drop l.term-index l.terms)
