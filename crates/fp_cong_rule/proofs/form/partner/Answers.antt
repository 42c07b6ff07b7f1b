use Rattle.std.proofs.Common.{◌<◌, ◌≤◌, length, sym, arith}
use Rattle.fp_cong_rule.proofs.Partners.{ended, passed}
use Rattle.fp_cong_rule.proofs.form.partner.Goals as goal

pub returns-then-at-ys : goal.returns-then-at-ys
returns-then-at-ys c =
    let h : length c.args.ys.now ≤ c.loop-at.at = omega (arith, c.if-at-ys.true) in
    ended c.args.xs.now c.args.ys.now c.loop-at.at c.args.term.now h c.loop-at.invariant

pub loop-at-preserved : goal.loop-at-preserved
loop-at-preserved c =
    let h : c.loop-at.at < length c.args.xs.now = omega (arith, c.loop-at-test.true) in
    let k : c.loop-at.at < length c.args.ys.now = omega (arith, c.if-at-ys.false) in
    passed c.args.xs.now c.args.ys.now c.loop-at.at c.index-xs-at.result c.args.term.now c.index-xs-at.is h k (sym c.if-same.ensures.value) c.loop-at.invariant
