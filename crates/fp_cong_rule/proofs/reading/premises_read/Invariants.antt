use Rattle.std.proofs.Common.{◌≡◌, ◌++◌, drop, map}
use Rattle.fp_cong_rule.specs.Reading.{premise_read}
use Rattle.fp_cong_rule.proofs.reading.premises_read.Given as goal

abbrev pub invariant-loop-premise : goal.invariant-loop-premise
invariant-loop-premise l = l.read ++ map (premise_read l.xs) (drop l.premise-index l.premises) ≡ map (premise_read l.xs) l.premises
