use Rattle.std.proofs.Common.{rules, arith, ◌∙◌, sym}
use Rattle.fp_raw.specs.Raws.{place}
use Rattle.fp_constrain.specs.Binding.{binders_in, declared_in}
use Rattle.fp_constrain.proofs.Drawn.{draws_of, typed_at, app_at, abs_at, binders_more, names_more}
use Rattle.fp_constrain.proofs.drawing.+draw.Goals as goal

pub draw-returns-in_ok-at-in-Name-clause-draws : goal.draw-returns-in_ok-at-in-Name-clause-draws
draw-returns-in_ok-at-in-Name-clause-draws t c =
    draws_of (declared_in c.args.constants.now) c.args.names.now (binders_in c.args.around.now) _ c.args.raw.now _ _ _ _ _ _ _ _ (rw c.in-Name.is at c.node.ensures) (c.in_ok-at-in-Name.ensures.draws (place c.args.raw.now))

pub draw-returns-in_ok-at-in-App-clause-draws : goal.draw-returns-in_ok-at-in-App-clause-draws
draw-returns-in_ok-at-in-App-clause-draws t c =
    draws_of (declared_in c.args.constants.now) c.args.names.now (binders_in c.args.around.now) _ c.args.raw.now _ _ _ _ _ _ _ _ (rw c.in-App.is at c.node.ensures) (c.in_ok-at-in-App.ensures.draws (place c.args.raw.now))

pub draw-returns-in_ok-at-in-Abs-clause-draws : goal.draw-returns-in_ok-at-in-Abs-clause-draws
draw-returns-in_ok-at-in-Abs-clause-draws t c =
    draws_of (declared_in c.args.constants.now) c.args.names.now (binders_in c.args.around.now) _ c.args.raw.now _ _ _ _ _ _ _ _ (rw c.in-Abs.is at c.node.ensures) (c.in_ok-at-in-Abs.ensures.draws (place c.args.raw.now))

pub draw_abs-draw-requires : goal.draw_abs-draw-requires
draw_abs-draw-requires t c =
    let b = c.in_ok-bound.ensures.binds in
    (search (arith, rules), (b.grows.about, ((b.inside, binders_more _ _ (binders_in c.args.around.now) b.grows.later c.requires.binders), (names_more _ _ _ b.grows.later c.requires.names, (c.requires.few, c.requires.counted ∙ sym c.in_ok-bound.ensures.step)))))

pub draw_abs-returns-clause-draws : goal.draw_abs-returns-clause-draws
draw_abs-returns-clause-draws t c = λ p.
    let b = c.in_ok-bound.ensures in
    let d = c.in_ok-of_body.ensures in
    let f = c.in_ok-at.ensures in
    let a = c.in_ok-add_function.ensures in
    let n = c.in_ok-advance.ensures in
    abs_at (declared_in c.args.constants.now) c.args.names.now (binders_in c.args.around.now) _ c.args.name.now c.args.ty.now c.args.body.now p _ _ _ _ _ _ _ _ _ _ _ _ _ _ _ _ c.requires.binders c.requires.names b.binds b.step d.draws
    (f.step ∙ d.step) f.value (n.next ∙ a.next ∙ f.next) (n.facts ∙ rw f.facts at a.facts) n.seen

pub draw_app-draw-requires-2 : goal.draw_app-draw-requires-2
draw_app-draw-requires-2 t c =
    let d = c.in_ok-of_fun.ensures.draws in
    (search (arith, rules), (d.grows.about, (binders_more _ _ (binders_in c.args.around.now) d.grows.later c.requires.binders, (names_more _ _ _ d.grows.later c.requires.names, (c.requires.few, d.sees.counted ∙ sym c.in_ok-of_fun.ensures.step)))))

pub draw_app-returns-clause-draws : goal.draw_app-returns-clause-draws
draw_app-returns-clause-draws t c = λ p.
    let d = c.in_ok-of_fun.ensures in
    let x = c.in_ok-of_arg.ensures in
    let f = c.in_ok-at.ensures in
    let a = c.in_ok-add_function.ensures in
    let n = c.in_ok-advance.ensures in
    app_at (declared_in c.args.constants.now) c.args.names.now (binders_in c.args.around.now) _ c.args.fun.now c.args.arg.now p _ _ _ _ _ _ _ _ _ _ _ _ _ _ _ _ _ c.requires.binders c.requires.names d.draws d.step x.draws
    (f.step ∙ x.step) f.value (n.next ∙ a.next ∙ f.next) (n.facts ∙ rw f.facts at a.facts) n.seen

pub draw-returns-in_ok-at-in-Bound-clause-draws : goal.draw-returns-in_ok-at-in-Bound-clause-draws
draw-returns-in_ok-at-in-Bound-clause-draws t c =
    draws_of (declared_in c.args.constants.now) c.args.names.now (binders_in c.args.around.now) _ c.args.raw.now _ _ _ _ _ _ _ _ (rw c.in-Bound.is at c.node.ensures) (c.in_ok-at-in-Bound.ensures.draws (declared_in c.args.constants.now) c.args.names.now (place c.args.raw.now))

pub draw-returns-in_ok-at-in-Free-clause-draws : goal.draw-returns-in_ok-at-in-Free-clause-draws
draw-returns-in_ok-at-in-Free-clause-draws t c =
    draws_of (declared_in c.args.constants.now) c.args.names.now (binders_in c.args.around.now) _ c.args.raw.now _ _ _ _ _ _ _ _ (rw c.in-Free.is at c.node.ensures) (c.in_ok-at-in-Free.ensures.draws (declared_in c.args.constants.now) (binders_in c.args.around.now) (place c.args.raw.now))

pub draw-returns-in_ok-at-in-Const-clause-draws : goal.draw-returns-in_ok-at-in-Const-clause-draws
draw-returns-in_ok-at-in-Const-clause-draws t c =
    draws_of (declared_in c.args.constants.now) c.args.names.now (binders_in c.args.around.now) _ c.args.raw.now _ _ _ _ _ _ _ _ (rw c.in-Const.is at c.node.ensures) (c.in_ok-at-in-Const.ensures.draws c.args.names.now (binders_in c.args.around.now) (place c.args.raw.now))

pub draw-returns-in_ok-at-in-Typed-clause-draws : goal.draw-returns-in_ok-at-in-Typed-clause-draws
draw-returns-in_ok-at-in-Typed-clause-draws t c =
    draws_of (declared_in c.args.constants.now) c.args.names.now (binders_in c.args.around.now) _ c.args.raw.now _ _ _ _ _ _ _ _ (rw c.in-Typed.is at c.node.ensures) (c.in_ok-at-in-Typed.ensures.draws (place c.args.raw.now))

pub draw_typed-returns-clause-draws : goal.draw_typed-returns-clause-draws
draw_typed-returns-clause-draws t c = λ p.
    let d = c.in_ok-of_term.ensures in
    let w = c.in_ok-node.ensures in
    let s = c.in_ok-at.ensures in
    let n = c.in_ok-advance.ensures in
    typed_at (declared_in c.args.constants.now) c.args.names.now (binders_in c.args.around.now) c.args.term.now c.args.ty.now p _ _ _ _ _ _ _ _ _ _ _ _ _ _ _ _ _ d.draws d.step w.lays w.step s.value (n.next ∙ s.next) (n.facts ∙ s.facts) n.seen
