use Rattle.std.proofs.Common.{◌≡◌, ◌∷◌}
use Rattle.fp_rewriting.specs.Fitting.{here, IsPassed}
use Rattle.fp_rewriting.proofs.Passing.{passed_on}
use Rattle.fp_rewriting.proofs.fitting.first_fitting.Goals as goal

pub loop-rule-init : goal.loop-rule-init
loop-rule-init c = here _

pub loop-rule-preserved : goal.loop-rule-preserved
loop-rule-preserved c =
    let e : c.loop-rule.rest.now ≡ c.in-Some.rule.now ∷ c.in-Some.after.now = c.in-Some.ensures.cases.0 in
    let p : IsPassed c.args.depth c.args.term.now c.in-Some.rule.now = rw c.in_default-2.is at c.in_ok-inst.ensures.none in
    passed_on c.args.rules.now c.loop-rule.rest.now c.in-Some.rule.now c.in-Some.after.now e p c.loop-rule.invariant
