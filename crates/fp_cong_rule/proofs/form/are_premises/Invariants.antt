use Rattle.std.proofs.Common.{◌≡◌, [], drop}
use Rattle.fp_cong_rule.specs.Form.{are_premises}
use Rattle.fp_cong_rule.proofs.form.are_premises.Given as goal

abbrev pub invariant-loop-premise : goal.invariant-loop-premise
invariant-loop-premise l = are_premises l.xs l.ys l.taken l.known (drop l.premise-index l.premises) ≡ are_premises l.xs l.ys [] [] l.premises
