use Rattle.fp_commands.specs.Grammar.{quoted}
use Rattle.fp_syntax.proofs.written.quoted_term.Goals as goal

pub returns-in-Term-clause-reads : goal.returns-in-Term-clause-reads
returns-in-Term-clause-reads c = quoted c.in_ok-take_sign.ensures.reads (rw c.in-Term.is at c.in_ok-term.ensures.reads)
