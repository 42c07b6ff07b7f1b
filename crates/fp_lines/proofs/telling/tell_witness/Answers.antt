use Rattle.fp_line_rules.proofs.Sound.{witness_line}
use Rattle.fp_lines.proofs.Usable.{told_line}
use Rattle.fp_lines.proofs.telling.tell_witness.Goals as goal

pub returns-clause-exact : goal.returns-clause-exact
returns-clause-exact c = record { answer = c.by_witness.result; comes = c.by_witness.ensures; is = c.told.ensures }

pub returns-clause-line : goal.returns-clause-line
returns-clause-line c = told_line c.args.defs.now c.by_witness.result c.told.result c.told.ensures (witness_line c.args.defs.now c.args.term.now c.args.witness.now c.args.a.now c.by_witness.result c.requires.promises c.by_witness.ensures)
