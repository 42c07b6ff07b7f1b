use Rattle.fp_conv.proofs.Given.{within}
use Rattle.fp_conv.proofs.Rewriting.{under_given, under_equates}
use Rattle.fp_conv.proofs.at_place.closed_again.Goals as goal

pub lam_known-requires-clause-within : goal.lam_known-requires-clause-within
lam_known-requires-clause-within c = within c.requires.inner

pub lam_known-requires-clause-given : goal.lam_known-requires-clause-given
lam_known-requires-clause-given c =
    let e = c.args.sides.now in
    under_given c.args.defs.now c.args.eq.now e.ty.now e.left.now e.right.now c.requires.equation c.args.opening.0 c.args.ty.now c.args.body.now c.args.rest.now c.args.opening.1 c.requires.opened c.requires.apart c.requires.typed
    c.args.inner c.requires.inner

pub returns : goal.returns
returns c =
    let e = c.args.sides.now in
    under_equates c.args.defs.now c.args.eq.now e.ty.now e.left.now e.right.now c.requires.equation c.args.opening.0 c.args.ty.now c.args.body.now c.args.rest.now c.args.opening.1 c.requires.opened c.requires.apart c.requires.typed
    c.args.inner c.lam_known.result c.requires.inner c.lam_known.ensures
