use Rattle.fp_conclude.proofs.Equations.{exact_sides, own_equality}
use Rattle.fp_conclude.proofs.parts.sides.Goals as goal

pub returns-clause-exact : goal.returns-clause-exact
returns-clause-exact c = exact_sides c.args.term.now c.parts_of.result c.parts_of.ensures.parts

pub returns-clause-equality : goal.returns-clause-equality
returns-clause-equality c = own_equality c.args.term.now c.parts_of.result c.parts_of.ensures.parts c.parts_of.ensures.whole
