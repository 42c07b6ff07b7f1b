use Rattle.fp_constrain.specs.Binding.{binders_in}
use Rattle.fp_constrain.proofs.Drawn.{bound_below, draws_bound, draws_unbound, draws_at}
use Rattle.fp_constrain.proofs.drawing.draw_bound.Goals as goal

pub known-requires-clause-inside : goal.known-requires-clause-inside
known-requires-clause-inside c = bound_below _ (binders_in c.args.around.now) c.args.number _ c.requires.binders c.in-Some.ensures

pub returns-in_ok-advance-in-Some-clause-draws : goal.returns-in_ok-advance-in-Some-clause-draws
returns-in_ok-advance-in-Some-clause-draws c = λ g names p.
    let a = c.in_ok-advance-in-Some.ensures in
    let b = binders_in c.args.around.now in
    draws_at g names b _ _ _ _ _ _ _ _ _ _ _ _ (draws_bound g names b _ _ _ _ _ _ c.args.number p _ _ c.requires.counted c.in-Some.ensures c.in_ok-at-in-Some.ensures.leaf) a.next a.facts a.seen

pub returns-in_ok-advance-in-None-clause-draws : goal.returns-in_ok-advance-in-None-clause-draws
returns-in_ok-advance-in-None-clause-draws c = λ g names p.
    let a = c.in_ok-advance-in-None.ensures in
    let b = binders_in c.args.around.now in
    draws_at g names b _ _ _ _ _ _ _ _ _ _ _ _ (draws_unbound g names b _ _ _ _ _ _ c.args.number p _ c.requires.counted c.in-None.ensures c.in_ok-at-in-None.ensures.leaf) a.next a.facts a.seen
