use Rattle.std.proofs.Common.{◌≡◌, drop}
use Rattle.fp_cong_rule.specs.Form.{are_numbers}
use Rattle.fp_cong_rule.proofs.form.are_numbers.Given as goal

abbrev pub invariant-loop-term : goal.invariant-loop-term
invariant-loop-term l = are_numbers l.below (drop l.term-index l.terms) ≡ are_numbers l.count l.terms
