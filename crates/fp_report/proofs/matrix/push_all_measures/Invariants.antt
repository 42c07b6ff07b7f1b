use Rattle.std.proofs.Common.{◌≡◌, ◌++◌, ◌-◌, drop, length}
use Rattle.fp_outcome.specs.Shown.{ListsHaveOnly}
use Rattle.fp_report.specs.Matrices.{measures_lines}
use Rattle.fp_report.proofs.matrix.push_all_measures.Given as goal

-- what is left goes behind the text
abbrev pub invariant-loop-at : goal.invariant-loop-at
invariant-loop-at l = (l.text.items ++ measures_lines l.full (drop l.at l.functions) (drop l.at l.measures) ≡ l.fn.text.items ++ measures_lines l.full l.functions l.measures) × ListsHaveOnly (drop l.at l.measures)

abbrev pub decreases-loop-at : goal.decreases-loop-at
decreases-loop-at l = length l.functions - l.at
