use Rattle.std.proofs.Common.{◌≡◌, ◌++◌, drop}
use Rattle.fp_report.specs.Matrices.{measure_lines}
use Rattle.fp_print.specs.Numbers.{AllHaveOnly}
use Rattle.fp_report.proofs.matrix.push_measures.Given as goal

-- what is left goes behind the text
abbrev pub invariant-loop-measure : goal.invariant-loop-measure
invariant-loop-measure l = (l.text.items ++ measure_lines l.full l.function l.number (drop l.measure-index l.measures) ≡ l.fn.text.items ++ measure_lines l.full l.function 1 l.measures) × AllHaveOnly 0 (drop l.measure-index l.measures)
