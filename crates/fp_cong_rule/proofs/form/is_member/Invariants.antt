use Rattle.std.proofs.Common.{◌≡◌, drop}
use Rattle.fp_conclude.specs.Hypotheses.{member}
use Rattle.fp_cong_rule.proofs.form.is_member.Given as goal

abbrev pub invariant-loop-other : goal.invariant-loop-other
invariant-loop-other l = member l.term (drop l.other-index l.terms) ≡ member l.term l.terms
