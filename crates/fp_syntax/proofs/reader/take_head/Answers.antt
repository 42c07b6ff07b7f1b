use Rattle.fp_commands.specs.Grammar.{head}
use Rattle.fp_syntax.proofs.reader.take_head.Goals as goal

pub returns-clause-reads : goal.returns-clause-reads
returns-clause-reads c = head c.in_ok-name.ensures.reads c.in_ok-take_sign.ensures.reads c.in_ok-ty.ensures.reads
