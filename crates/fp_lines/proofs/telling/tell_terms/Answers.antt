use Rattle.fp_line_rules.proofs.Sound.{terms_line}
use Rattle.fp_lines.proofs.Usable.{told_line}
use Rattle.fp_lines.proofs.telling.tell_terms.Goals as goal

pub returns-clause-exact : goal.returns-clause-exact
returns-clause-exact c = record { answer = c.by_terms.result; comes = c.by_terms.ensures; is = c.told.ensures }

pub returns-clause-line : goal.returns-clause-line
returns-clause-line c = told_line c.args.defs.now c.by_terms.result c.told.result c.told.ensures (terms_line c.args.defs.now c.args.a.now c.args.pairs.now c.by_terms.result c.requires.promises c.by_terms.ensures)
