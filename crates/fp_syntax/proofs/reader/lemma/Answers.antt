use Rattle.fp_commands.specs.Grammar.{lemma}
use Rattle.fp_syntax.proofs.reader.lemma.Goals as goal

pub returns-clause-reads : goal.returns-clause-reads
returns-clause-reads c = lemma c.in_ok-name.ensures.reads c.in_ok-take_sign.ensures.reads c.in_ok-statement.ensures.reads c.in_ok-take_sign-2.ensures.reads c.in_ok-lines.ensures.reads c.in_ok-take_sign-3.ensures.reads c.in_ok-lines.ensures.few
