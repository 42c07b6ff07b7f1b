use Rattle.fp_line_rules.proofs.Sound.{before_theorem_line}
use Rattle.fp_lines.proofs.Usable.{told_line}
use Rattle.fp_lines.proofs.telling.tell_before_theorem.Goals as goal

pub returns-clause-exact : goal.returns-clause-exact
returns-clause-exact c = record { answer = c.before_theorem.result; comes = c.before_theorem.ensures; is = c.told.ensures }

pub returns-clause-line : goal.returns-clause-line
returns-clause-line c = told_line c.args.defs.now c.before_theorem.result c.told.result c.told.ensures (before_theorem_line c.args.defs.now c.args.rule c.args.term.now c.args.a.now c.before_theorem.result c.requires.promises c.before_theorem.ensures)
