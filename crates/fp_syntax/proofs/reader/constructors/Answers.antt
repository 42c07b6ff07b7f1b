use Rattle.fp_commands.specs.Grammar.{constructors}
use Rattle.fp_syntax.proofs.reader.constructors.Goals as goal

pub returns-clause-reads : goal.returns-clause-reads
returns-clause-reads c = constructors c.in_ok-ty.ensures.reads c.in_ok-take_sign.ensures.reads c.in_ok-cons.ensures.reads
