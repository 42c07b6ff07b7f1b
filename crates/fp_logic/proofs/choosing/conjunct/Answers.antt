use Rattle.fp_logic.proofs.Choosers.{choice_asks}
use Rattle.fp_logic.proofs.choosing.conjunct.Goals as goal

pub choices-requires : goal.choices-requires
choices-requires c = c.requires

pub choosing-requires-clause-left : goal.choosing-requires-clause-left
choosing-requires-clause-left c = c.requires.2

pub choosing-requires-clause-right : goal.choosing-requires-clause-right
choosing-requires-clause-right c = c.requires.3

pub convert-requires : goal.convert-requires
convert-requires c = rw (c.in_ok-choosing.ensures, c.in_ok-choices.ensures) (choice_asks c.args.defs.now c.args.a.now c.args.first c.args.left.now c.args.right.now)

pub returns : goal.returns
returns c = rw (c.in_ok-choosing.ensures, c.in_ok-choices.ensures) at c.convert.ensures
