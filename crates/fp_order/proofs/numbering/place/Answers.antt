use Rattle.std.proofs.Common.{arith}
use Rattle.std.proofs.lemmas.Grind.{common_steps}
use Rattle.fp_order.proofs.Places.{place_inside}
use Rattle.fp_order.proofs.numbering.place.Goals as goal

pub returns-clause-inside : goal.returns-clause-inside
returns-clause-inside c = grind (arith, common_steps, place_inside c.args.g.now c.args.cell c.requires.cell)
