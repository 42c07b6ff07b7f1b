use Rattle.std.proofs.Common.{◌≡◌, ◌++◌, drop, map}
use Rattle.fp_cong_rule.specs.Parts.{parts_of}
use Rattle.fp_cong_rule.proofs.parts.all_parts.Given as goal

abbrev pub invariant-loop-term : goal.invariant-loop-term
invariant-loop-term l = l.premises ++ map parts_of (drop l.term-index l.terms) ≡ map parts_of l.terms
