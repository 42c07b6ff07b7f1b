use Rattle.std.proofs.Common.{◌≡◌}
use Rattle.fp_outcome.specs.Parts.{set_below}
use Rattle.fp_outcome.proofs.parts.set_of.Given as goal

abbrev pub invariant-loop-number : goal.invariant-loop-number
invariant-loop-number l = l.chosen ≡ set_below l.own l.set l.number
