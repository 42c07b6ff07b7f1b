use Rattle.std.proofs.Common.{ap}
use Rattle.fp_constrain.specs.Subterms.{plain_option}
use Rattle.fp_constrain.proofs.Drawn.{leaf_unwritten, written_at, leaf_given}
use Rattle.fp_constrain.proofs.drawing.constant_leaf.Goals as goal

pub returns-in-None-clause-leaf : goal.returns-in-None-clause-leaf
returns-in-None-clause-leaf c = leaf_given _ _ _ _ _ _ _ _ _ _ (ap plain_option c.in-None.is) (leaf_unwritten _ _ _ _ _ _ _ _ c.in_ok-at.ensures.leaf)

pub returns-in_ok-also_written-in-Some-clause-leaf :
    goal.returns-in_ok-also_written-in-Some-clause-leaf
returns-in_ok-also_written-in-Some-clause-leaf c =
    let k = c.in_ok-at.ensures in
    leaf_given _ _ _ _ _ _ _ _ _ _ (ap plain_option c.in-Some.is) (written_at _ _ _ _ _ _ _ _ _ _ _ _ _ k.leaf k.step c.in_ok-also_written-in-Some.ensures.lays)
