use Rattle.fp_conv.proofs.Given.{given_unless_memory, refl_given, refl_equates}
use Rattle.fp_conv.proofs.steps.refl_known.Goals as goal

pub given-requires : goal.given-requires
given-requires c = given_unless_memory c.refl.result _ c.refl.ensures (refl_given c.args.defs.now c.args.term.now c.requires)

pub returns : goal.returns
returns c = refl_equates c.args.defs.now c.args.term.now c.refl.result c.given.result c.requires c.refl.ensures c.given.ensures
