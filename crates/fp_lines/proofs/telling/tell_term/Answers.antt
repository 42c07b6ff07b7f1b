use Rattle.fp_line_rules.proofs.Sound.{term_line}
use Rattle.fp_lines.proofs.Usable.{told_line}
use Rattle.fp_lines.proofs.telling.tell_term.Goals as goal

pub returns-clause-exact : goal.returns-clause-exact
returns-clause-exact c = record { answer = c.of_term.result; comes = c.of_term.ensures; is = c.told.ensures }

pub returns-clause-line : goal.returns-clause-line
returns-clause-line c = told_line c.args.defs.now c.of_term.result c.told.result c.told.ensures (term_line c.args.defs.now c.args.rule c.args.term.now c.of_term.result c.of_term.ensures)
