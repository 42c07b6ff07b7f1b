use Rattle.fp_commands.specs.Grammar.{term_arg, type_arg}
use Rattle.fp_syntax.proofs.line.take_argument.Goals as goal

pub returns-in_ok-take_bracketed_type-clause-reads : goal.returns-in_ok-take_bracketed_type-clause-reads
returns-in_ok-take_bracketed_type-clause-reads c = type_arg c.in_ok-take_bracketed_type.ensures.reads

pub returns-in_ok-take_term-clause-reads : goal.returns-in_ok-take_term-clause-reads
returns-in_ok-take_term-clause-reads c = term_arg c.in_ok-take_term.ensures.reads
