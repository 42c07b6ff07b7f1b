use Rattle.fp_line_rules.proofs.Sound.{theorem_line}
use Rattle.fp_lines.proofs.Usable.{told_line}
use Rattle.fp_lines.proofs.telling.tell_theorem.Goals as goal

pub returns-clause-exact : goal.returns-clause-exact
returns-clause-exact c = record { answer = c.of_theorem.result; comes = c.of_theorem.ensures; is = c.told.ensures }

pub returns-clause-line : goal.returns-clause-line
returns-clause-line c = told_line c.args.defs.now c.of_theorem.result c.told.result c.told.ensures (theorem_line c.args.defs.now c.args.rule c.args.a.now c.of_theorem.result c.requires.promises c.of_theorem.ensures)
