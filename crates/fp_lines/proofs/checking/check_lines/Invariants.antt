use Rattle.std.proofs.Common.{drop}
use Rattle.fp_line_rules.specs.Standing.{AreLines}
use Rattle.fp_lines.specs.Checks.{Leads}
use Rattle.fp_lines.proofs.checking.check_lines.Given as goal

abbrev pub invariant-loop-line : goal.invariant-loop-line
invariant-loop-line l = AreLines l.defs l.before.items × Leads l.defs l.theory.named l.theory.simps l.given l.statement l.before.items l.number (drop l.line-index l.lines) l.lines
