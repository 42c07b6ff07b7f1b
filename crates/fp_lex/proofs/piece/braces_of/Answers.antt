use Rattle.fp_lex.proofs.Within.{braces_bad, braces_token}
use Rattle.fp_lex.proofs.piece.braces_of.Goals as goal

pub returns-then-allowed-inside : goal.returns-then-allowed-inside
returns-then-allowed-inside c = braces_bad _ _ _ c.run-inside.ensures.counts c.if-inside-rest.false c.run-allowed.ensures.counts c.if-allowed-inside.true

pub returns-else-allowed-inside : goal.returns-else-allowed-inside
returns-else-allowed-inside c = braces_token _ _ _ c.run-inside.ensures.counts c.if-inside-rest.false c.run-allowed.ensures.counts c.if-allowed-inside.false
