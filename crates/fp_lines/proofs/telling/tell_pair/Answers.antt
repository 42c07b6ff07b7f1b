use Rattle.fp_line_rules.proofs.Sound.{pair_line}
use Rattle.fp_lines.proofs.Usable.{told_line}
use Rattle.fp_lines.proofs.telling.tell_pair.Goals as goal

pub returns-clause-exact : goal.returns-clause-exact
returns-clause-exact c = record { answer = c.of_pair.result; comes = c.of_pair.ensures; is = c.told.ensures }

pub returns-clause-line : goal.returns-clause-line
returns-clause-line c = told_line c.args.defs.now c.of_pair.result c.told.result c.told.ensures (pair_line c.args.defs.now c.args.rule c.args.a.now c.args.b.now c.of_pair.result c.requires.a.promises c.requires.b.promises c.of_pair.ensures)
