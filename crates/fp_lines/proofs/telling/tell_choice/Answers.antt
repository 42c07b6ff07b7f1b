use Rattle.fp_line_rules.proofs.Sound.{choice_line}
use Rattle.fp_lines.proofs.Usable.{told_line}
use Rattle.fp_lines.proofs.telling.tell_choice.Goals as goal

pub returns-clause-exact : goal.returns-clause-exact
returns-clause-exact c = record { answer = c.by_choice.result; comes = c.by_choice.ensures; is = c.told.ensures }

pub returns-clause-line : goal.returns-clause-line
returns-clause-line c = told_line c.args.defs.now c.by_choice.result c.told.result c.told.ensures (choice_line c.args.defs.now c.args.variable.now c.args.a.now c.args.b.now c.by_choice.result c.requires.a.promises c.requires.b.promises c.by_choice.ensures)
