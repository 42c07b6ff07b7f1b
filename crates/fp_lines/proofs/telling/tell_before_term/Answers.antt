use Rattle.fp_line_rules.proofs.Sound.{before_term_line}
use Rattle.fp_lines.proofs.Usable.{told_line}
use Rattle.fp_lines.proofs.telling.tell_before_term.Goals as goal

pub returns-clause-exact : goal.returns-clause-exact
returns-clause-exact c = record { answer = c.before_term.result; comes = c.before_term.ensures; is = c.told.ensures }

pub returns-clause-line : goal.returns-clause-line
returns-clause-line c = told_line c.args.defs.now c.before_term.result c.told.result c.told.ensures (before_term_line c.args.defs.now c.args.rule c.args.a.now c.args.term.now c.before_term.result c.requires.promises c.before_term.ensures)
