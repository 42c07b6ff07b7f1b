use Rattle.std.proofs.Common.{sym, ◌∙◌}
use Rattle.fp_rewriting.proofs.reading.rule_of.Goals as goal

pub returns-then-is_rewriting-clause-stated : goal.returns-then-is_rewriting-clause-stated
returns-then-is_rewriting-clause-stated c = sym c.is_rewriting.ensures ∙ c.if-is_rewriting.true
