use Rattle.fp_unify.proofs.Merged.{merged, unmerged, taken_read}
use Rattle.fp_unify.proofs.merging.merge.Goals as goal

pub returns-then-is_open : goal.returns-then-is_open
returns-then-is_open c = taken_read _ _ _ c.index-cells-low.result _ _ c.requires.fine c.requires.order c.requires.inside c.if-is_open.ensures c.requires.high_root c.take_over.ensures

pub returns-then-not-branch : goal.returns-then-not-branch
returns-then-not-branch c =
    unmerged _ _ _ _ _ _ _ _ c.requires.fine c.requires.order c.requires.inside c.index-cells-low-2.is c.index-cells-high.is c.in_ok-add_needed.ensures
    c.index-cells-low.result c.requires.low_root c.requires.high_root c.if-is_open.ensures c.if-not-branch.true

pub returns : goal.returns
returns c = merged _ _ _ _ _ _ _ _ c.requires.fine c.requires.order c.requires.inside c.index-cells-low-2.is c.index-cells-high.is c.in_ok-add_needed.ensures c.if-not-branch.false
