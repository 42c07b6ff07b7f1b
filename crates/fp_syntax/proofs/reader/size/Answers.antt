use Rattle.fp_commands.specs.Grammar.{size_of}
use Rattle.fp_syntax.proofs.reader.size.Goals as goal

pub returns-clause-reads : goal.returns-clause-reads
returns-clause-reads c = size_of c.in_ok-ty.ensures.reads c.in_ok-term.ensures.reads
