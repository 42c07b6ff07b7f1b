use Rattle.fp_line_rules.proofs.Sound.{variable_line}
use Rattle.fp_lines.proofs.Usable.{told_line}
use Rattle.fp_lines.proofs.telling.tell_variable.Goals as goal

pub returns-clause-exact : goal.returns-clause-exact
returns-clause-exact c = record { answer = c.of_variable.result; comes = c.of_variable.ensures; is = c.told.ensures }

pub returns-clause-line : goal.returns-clause-line
returns-clause-line c = told_line c.args.defs.now c.of_variable.result c.told.result c.told.ensures (variable_line c.args.defs.now c.args.rule c.args.variable.now c.args.a.now c.of_variable.result c.requires.promises c.of_variable.ensures)
