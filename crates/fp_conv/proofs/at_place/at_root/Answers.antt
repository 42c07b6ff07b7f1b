use Rattle.fp_conv.proofs.Given.{within}
use Rattle.fp_conv.proofs.Rewriting.{right_typed, root_given, root_equates}
use Rattle.fp_conv.proofs.at_place.at_root.Goals as goal

pub refl_known-requires : goal.refl_known-requires
refl_known-requires c =
    let e = c.args.sides.now in
    right_typed c.args.defs.now c.args.eq.now e.ty.now e.left.now e.right.now c.requires.within c.concl.ensures.derived c.requires.equation

pub trans_known-requires-clause-second_within : goal.trans_known-requires-clause-second_within
trans_known-requires-clause-second_within c = within c.in_ok-same.ensures

pub trans_known-requires-clause-given : goal.trans_known-requires-clause-given
trans_known-requires-clause-given c =
    let e = c.args.sides.now in
    root_given c.args.defs.now c.args.eq.now e.ty.now e.left.now e.right.now c.requires.within c.concl.ensures.derived c.requires.equation c.in_ok-same.same c.in_ok-same.ensures

pub returns : goal.returns
returns c =
    let e = c.args.sides.now in
    root_equates c.args.defs.now c.args.eq.now e.ty.now e.left.now e.right.now c.requires.within c.concl.ensures.derived c.requires.equation c.in_ok-same.same c.trans_known.result c.in_ok-same.ensures c.trans_known.ensures
