use Rattle.fp_constrain.proofs.Drawn.{leaf_at}
use Rattle.fp_constrain.proofs.Numbered.{leaf_known}
use Rattle.fp_constrain.proofs.drawing.known.Goals as goal

pub returns-clause-leaf : goal.returns-clause-leaf
returns-clause-leaf c =
    let e = c.in_ok-new.ensures in
    leaf_at _ _ _ _ _ _ _ _ _ _ _ (leaf_known _ _ _ _ c.requires.about c.requires.inside) e.next e.facts e.value
