use Rattle.fp_lines.proofs.Usable.{told_line, simp_line}
use Rattle.fp_lines.proofs.telling.tell_simp.Goals as goal

pub returns-clause-exact : goal.returns-clause-exact
returns-clause-exact c = record { answer = c.simp_eq.result; comes = c.simp_eq.ensures; is = c.told.ensures }

pub returns-clause-line : goal.returns-clause-line
returns-clause-line c = told_line c.args.theory.now.defs c.simp_eq.result c.told.result c.told.ensures (simp_line c.args.theory.now.defs _ c.args.term.now c.simp_eq.result c.simp_eq.ensures)
