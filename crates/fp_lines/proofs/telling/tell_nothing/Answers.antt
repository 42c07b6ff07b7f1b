use Rattle.fp_line_rules.proofs.Sound.{nothing_line}
use Rattle.fp_lines.proofs.Usable.{told_line}
use Rattle.fp_lines.proofs.telling.tell_nothing.Goals as goal

pub returns-clause-exact : goal.returns-clause-exact
returns-clause-exact c = record { answer = c.by_nothing.result; comes = c.by_nothing.ensures; is = c.told.ensures }

pub returns-clause-line : goal.returns-clause-line
returns-clause-line c = told_line c.args.defs.now c.by_nothing.result c.told.result c.told.ensures (nothing_line c.args.defs.now c.by_nothing.result c.by_nothing.ensures)
