use Rattle.fp_line_rules.proofs.Sound.{cases_line}
use Rattle.fp_lines.proofs.Usable.{told_line}
use Rattle.fp_lines.proofs.telling.tell_cases.Goals as goal

pub returns-clause-exact : goal.returns-clause-exact
returns-clause-exact c = record { answer = c.by_cases.result; comes = c.by_cases.ensures; is = c.told.ensures }

pub returns-clause-line : goal.returns-clause-line
returns-clause-line c = told_line c.args.defs.now c.by_cases.result c.told.result c.told.ensures (cases_line c.args.defs.now c.args.a.now c.args.b.now c.args.c.now c.by_cases.result c.requires.a.promises c.requires.b.promises c.requires.c.promises c.by_cases.ensures)
