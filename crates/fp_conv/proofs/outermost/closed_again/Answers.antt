use Rattle.fp_conv.proofs.Given.{within}
use Rattle.fp_conv.proofs.Walking.{body_unchanged, body_given, body_rewritten}
use Rattle.fp_conv.proofs.outermost.closed_again.Goals as goal

pub lam_known-requires-clause-within : goal.lam_known-requires-clause-within
lam_known-requires-clause-within c = let d = rw c.in-Some.is at c.requires.inner in within d.equates

pub lam_known-requires-clause-given : goal.lam_known-requires-clause-given
lam_known-requires-clause-given c =
    body_given c.args.defs.now c.args.eq.now.promises c.args.eq.now.hyps c.args.sides.now.left.now c.args.sides.now.right.now c.args.opening.now.0 c.args.ty.now c.args.body.now c.args.opening.now.1 c.requires.none c.requires.unused c.requires.opened c.requires.typed c.in-Some.made (rw c.in-Some.is at c.requires.inner)

pub returns-in_ok-lam_known-in-Some : goal.returns-in_ok-lam_known-in-Some
returns-in_ok-lam_known-in-Some c =
    body_rewritten c.args.defs.now c.args.eq.now.promises c.args.eq.now.hyps c.args.sides.now.left.now c.args.sides.now.right.now c.args.opening.now.0 c.args.ty.now c.args.body.now c.args.opening.now.1 c.requires.none c.requires.unused c.requires.opened c.requires.typed c.in-Some.made
    c.in_ok-lam_known-in-Some.field-0 (rw c.in-Some.is at c.requires.inner) c.in_ok-lam_known-in-Some.ensures

pub returns-in-None : goal.returns-in-None
returns-in-None c = body_unchanged c.args.defs.now c.args.eq.now.promises c.args.eq.now.hyps c.args.sides.now.left.now c.args.sides.now.right.now c.args.opening.now.0 c.args.ty.now c.args.body.now c.args.opening.now.1 c.requires.none c.requires.unused c.requires.opened (rw c.in-None.is at c.requires.inner)
