use Rattle.std.proofs.Common.{◌≡◌, ◌+◌, ◌*◌}
use Rattle.fp_alike.proofs.alike.+alike.Given as goal

abbrev pub decreases-alike : goal.decreases-alike
decreases-alike l = 8 * l.levels

abbrev pub decreases-alike_body : goal.decreases-alike_body
decreases-alike_body l = 8 * l.levels + 7

abbrev pub decreases-alike_application : goal.decreases-alike_application
decreases-alike_application l = 8 * l.levels + 7

abbrev pub decreases-alike_call : goal.decreases-alike_call
decreases-alike_call l = 8 * l.levels + 6

abbrev pub decreases-alike_by_rule : goal.decreases-alike_by_rule
decreases-alike_by_rule l = 8 * l.levels + 6

abbrev pub decreases-alike_plain : goal.decreases-alike_plain
decreases-alike_plain l = 8 * l.levels + 6

abbrev pub decreases-alike_premise : goal.decreases-alike_premise
decreases-alike_premise l = 8 * l.levels + 5

abbrev pub decreases-alike_each : goal.decreases-alike_each
decreases-alike_each l = 8 * l.levels + 5

abbrev pub invariant-alike_each-loop-term : goal.invariant-alike_each-loop-term
invariant-alike_each-loop-term l = l.proof ≡ l.fn.proof

abbrev pub invariant-alike_by_rule-loop-number : goal.invariant-alike_by_rule-loop-number
invariant-alike_by_rule-loop-number l = l.proof ≡ l.fn.proof
