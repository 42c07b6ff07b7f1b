use Rattle.std.proofs.Common.{◌∙◌, refl}
use Rattle.fp_constrain.proofs.Drawn.{leaf_at, leaf_never}
use Rattle.fp_constrain.proofs.drawing.never.Goals as goal

pub returns-clause-leaf : goal.returns-clause-leaf
returns-clause-leaf c =
    let f = c.in_ok-at.ensures in
    let a = c.in_ok-add.ensures in
    leaf_at _ _ _ _ _ _ _ _ _ _ _ (leaf_never _ _ _ c.requires) (a.next ∙ f.next) (rw (a.facts, f.facts, f.step) refl) f.value
