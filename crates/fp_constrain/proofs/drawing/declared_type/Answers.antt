use Rattle.std.proofs.Common.{sym}
use Rattle.fp_constrain.specs.Declarations.{exactly, instances}
use Rattle.fp_constrain.proofs.Drawn.{declared_exact, declared_generic}
use Rattle.fp_constrain.proofs.drawing.declared_type.Goals as goal

pub returns-in-Some-clause-finds : goal.returns-in-Some-clause-finds
returns-in-Some-clause-finds c =
    let k = c.args.constants.now in
    (exactly _, sym (declared_exact k.signature.now k.exact.now c.args.name.now _ c.in-Some.ensures), c.in_ok-new.ensures.leaf)

pub returns-in_ok-new-in-Some-const_type-clause-finds : goal.returns-in_ok-new-in-Some-const_type-clause-finds
returns-in_ok-new-in-Some-const_type-clause-finds c =
    let k = c.args.constants.now in
    (instances _, sym (declared_generic k.signature.now k.exact.now c.args.name.now _ c.in_default.ensures c.in-Some-const_type.ensures), c.in_ok-new-in-Some-const_type.ensures.leaf)
