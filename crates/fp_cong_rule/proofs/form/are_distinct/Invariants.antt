use Rattle.std.proofs.Common.{◌≡◌, drop}
use Rattle.fp_cong_rule.specs.Form.{are_distinct}
use Rattle.fp_cong_rule.proofs.form.are_distinct.Given as goal

abbrev pub invariant-loop-at : goal.invariant-loop-at
invariant-loop-at l = are_distinct (drop l.at l.terms) ≡ are_distinct l.terms
