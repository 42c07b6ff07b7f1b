use Rattle.fp_conv.proofs.Given.{given_unless_memory}
use Rattle.fp_conv.proofs.Reduced.{contraction_given, contraction_reduces, contraction_right}
use Rattle.fp_conv.proofs.steps.beta_known.Goals as goal

pub given-requires : goal.given-requires
given-requires c = given_unless_memory c.beta.result _ c.beta.ensures (contraction_given c.args.defs.now c.args.term.now c.requires.typed c.requires.redex)

pub returns-clause-reduction : goal.returns-clause-reduction
returns-clause-reduction c = contraction_reduces c.args.defs.now c.args.term.now c.beta.result c.given.result c.requires.typed c.requires.redex c.beta.ensures c.given.ensures

pub returns-clause-contracted : goal.returns-clause-contracted
returns-clause-contracted c = contraction_right c.args.defs.now c.args.term.now c.beta.result c.given.result c.requires.typed c.requires.redex c.beta.ensures c.given.ensures
