use Rattle.std.proofs.Common.{[], sym}
use Rattle.fp_constrain.specs.Binding.{declared_in}
use Rattle.fp_constrain.proofs.Drawn.{constant_known, constant_unknown, leaf_from}
use Rattle.fp_constrain.proofs.drawing.constant_type.Goals as goal

pub returns-in-Some-clause-leaf : goal.returns-in-Some-clause-leaf
returns-in-Some-clause-leaf c =
    let f = rw c.in-Some.is at c.in_ok-new.ensures.finds in
    constant_known (declared_in c.args.constants.now) [] [] _ _ _ _ _ _ _ c.args.name.now (sym f.1) f.2

pub returns-in_ok-new-in-None-clause-leaf : goal.returns-in_ok-new-in-None-clause-leaf
returns-in_ok-new-in-None-clause-leaf c =
    let f = rw c.in-None.is at c.in_ok-new.ensures.finds in
    leaf_from _ _ _ _ _ _ _ _ _ _ _
    (constant_unknown (declared_in c.args.constants.now) [] [] _ _ _ _ _ _ c.args.name.now (sym f.0) c.in_ok-new-in-None.ensures.leaf) c.in_ok-new.ensures.step f.1 f.2
