use Rattle.fp_commands.specs.Grammar.{fun_group}
use Rattle.fp_syntax.proofs.reader.fun.Goals as goal

pub returns-clause-reads : goal.returns-clause-reads
returns-clause-reads c = fun_group c.in_ok-heads.ensures.reads c.in_ok-take_sign.ensures.reads c.in_ok-clauses.ensures.reads
