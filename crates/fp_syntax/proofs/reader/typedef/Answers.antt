use Rattle.fp_commands.specs.Grammar.{typedef}
use Rattle.fp_syntax.proofs.reader.typedef.Goals as goal

pub returns-clause-reads : goal.returns-clause-reads
returns-clause-reads c = typedef c.in_ok-name.ensures.reads c.in_ok-take_sign.ensures.reads c.in_ok-abs.ensures.reads c.in_ok-take_sign-2.ensures.reads c.in_ok-rep.ensures.reads c.in_ok-take_sign-3.ensures.reads c.in_ok-fact.ensures.reads
