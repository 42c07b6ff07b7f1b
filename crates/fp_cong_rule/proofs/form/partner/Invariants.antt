use Rattle.std.proofs.Common.{◌≡◌, drop}
use Rattle.fp_cong_rule.specs.Form.{partner}
use Rattle.fp_cong_rule.proofs.form.partner.Given as goal

abbrev pub invariant-loop-at : goal.invariant-loop-at
invariant-loop-at l = partner (drop l.at l.xs) (drop l.at l.ys) l.term ≡ partner l.xs l.ys l.term
