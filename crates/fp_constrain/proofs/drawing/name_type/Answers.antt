use Rattle.std.proofs.Common.{arith, sym}
use Rattle.fp_constrain.specs.Binding.{binders_in, declared_in}
use Rattle.fp_constrain.proofs.Drawn.{binder_below, among_within, name_bound, name_constant, name_free, leaf_from}
use Rattle.fp_constrain.proofs.drawing.name_type.Goals as goal

pub known-requires-clause-inside : goal.known-requires-clause-inside
known-requires-clause-inside c = binder_below _ c.args.name.now (binders_in c.args.around.now) _ c.requires.binders c.in-Some.ensures

pub returns-in_ok-new-in-Some-clause-leaf : goal.returns-in_ok-new-in-Some-clause-leaf
returns-in_ok-new-in-Some-clause-leaf c = name_bound (declared_in c.args.constants.now) c.args.names.now (binders_in c.args.around.now) c.args.name.now _ _ _ _ _ _ _ c.in-Some.ensures c.in_ok-new-in-Some.ensures.leaf

pub known-requires-in-None-2-clause-inside : goal.known-requires-in-None-2-clause-inside
known-requires-in-None-2-clause-inside c =
    let f = rw c.in-None-2.is at c.in_ok-new-in-None.ensures.finds in
    omega (arith, c.requires.names, among_within c.args.names.now c.args.name.now, c.number_among-number.ensures, f.1)

pub returns-in-Some-2-clause-leaf : goal.returns-in-Some-2-clause-leaf
returns-in-Some-2-clause-leaf c =
    let f = rw c.in-Some-2.is at c.in_ok-new-in-None.ensures.finds in
    name_constant (declared_in c.args.constants.now) c.args.names.now (binders_in c.args.around.now) c.args.name.now _ _ _ _ _ _ _ c.in-None.ensures (sym f.1) f.2

pub returns-in_ok-new-in-None-2-clause-leaf : goal.returns-in_ok-new-in-None-2-clause-leaf
returns-in_ok-new-in-None-2-clause-leaf c =
    let f = rw c.in-None-2.is at c.in_ok-new-in-None.ensures.finds in
    leaf_from _ _ _ _ _ _ _ _ _ _ _
    (name_free (declared_in c.args.constants.now) c.args.names.now (binders_in c.args.around.now) c.args.name.now _ _ _ _ _ _ c.in-None.ensures (sym f.0)
    (rw c.number_among-number.ensures at c.in_ok-new-in-None-2.ensures.leaf)) c.in_ok-new-in-None.ensures.step f.1 f.2
