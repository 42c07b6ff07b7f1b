use Rattle.fp_constrain.specs.Binding.{declared_in}
use Rattle.fp_constrain.proofs.Drawn.{draws_constant, draws_at}
use Rattle.fp_constrain.proofs.drawing.draw_constant.Goals as goal

pub returns-clause-draws : goal.returns-clause-draws
returns-clause-draws c = λ names binders p.
    let a = c.in_ok-advance.ensures in
    draws_at (declared_in c.args.constants.now) names binders _ _ _ _ _ _ _ _ _ _ _ _ (draws_constant (declared_in c.args.constants.now) names binders _ _ _ _ _ _ c.args.name.now c.args.ty.now p _ c.requires.counted c.in_ok-at.ensures.leaf) a.next a.facts a.seen
