use Rattle.fp_commands.specs.Grammar.{definition}
use Rattle.fp_syntax.proofs.reader.definition.Goals as goal

pub returns-clause-reads : goal.returns-clause-reads
returns-clause-reads c = definition c.in_ok-name.ensures.reads c.in_ok-take_sign.ensures.reads c.in_ok-term.ensures.reads
