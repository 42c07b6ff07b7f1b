use Rattle.fp_conv.proofs.Given.{within}
use Rattle.fp_conv.proofs.Reduced.{body_given, body_reduces, body_right}
use Rattle.fp_conv.proofs.beta.closed_again.Goals as goal

pub lam_known-requires-clause-within : goal.lam_known-requires-clause-within
lam_known-requires-clause-within c = within c.requires.inner.equates

pub lam_known-requires-clause-given : goal.lam_known-requires-clause-given
lam_known-requires-clause-given c =
    body_given c.args.defs.now c.args.opening.0 c.args.ty.now c.args.body.now c.args.opening.1 c.requires.opened c.requires.apart c.requires.typed c.args.inner c.requires.inner

pub returns-clause-reduction : goal.returns-clause-reduction
returns-clause-reduction c =
    body_reduces c.args.defs.now c.args.opening.0 c.args.ty.now c.args.body.now c.args.opening.1 c.requires.opened c.requires.apart c.requires.typed c.args.inner c.lam_known.result c.requires.inner c.lam_known.ensures

pub returns-clause-sides : goal.returns-clause-sides
returns-clause-sides c =
    body_right c.args.defs.now c.args.opening.0 c.args.ty.now c.args.body.now c.args.opening.1 c.requires.opened c.requires.apart c.requires.typed c.args.inner c.lam_known.result c.requires.inner c.lam_known.ensures
