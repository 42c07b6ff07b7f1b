use Rattle.std.proofs.Common.{◌≡◌, drop}
use Rattle.fp_cong_rule.specs.Reading.{place_from}
use Rattle.fp_cong_rule.proofs.reading.place.Given as goal

abbrev pub invariant-loop-other : goal.invariant-loop-other
invariant-loop-other l = place_from l.number (drop l.other-index l.terms) l.term ≡ place_from 1 l.terms l.term
