use Rattle.std.proofs.Common.{◌∙◌}
use Rattle.fp_constrain.proofs.Clashing.{fixes_at}
use Rattle.fp_constrain.proofs.clash.fix_all.Goals as goal

pub lay-requires-clause-about : goal.lay-requires-clause-about
lay-requires-clause-about c = c.loop-pair.invariant.fixes.grows.about

pub loop-pair-preserved : goal.loop-pair-preserved
loop-pair-preserved c =
    let i = c.loop-pair.invariant in
    let l = c.in_ok-at.ensures in
    let a = c.in_ok-add.ensures in
    record {
      step = a.step ∙ l.step ∙ i.step;
      fixes = fixes_at _ _ _ _ _ _ _ _ _ _ _ _ _ _ _ c.loop-pair-test.true c.pair-item.is c.requires.names i.fixes l.lays c.number_among-number.ensures (l.step ∙ i.step) a.next a.facts;
    }
