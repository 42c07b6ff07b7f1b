use Rattle.fp_command.proofs.Refusing.{lemma_refuses}
use Rattle.fp_command.proofs.lemma.lemma_free.Goals as goal

pub returns-in-Ok-clause-refused : goal.returns-in-Ok-clause-refused
returns-in-Ok-clause-refused c =
    lemma_refuses c.args.theory.now c.stated_lemma.new.theory c.args.at c.args.name.now c.args.statement.now c.args.lines.now c.in-Ok.term c.stated_lemma.result c.requires
    c.in-Ok.ensures.typed c.in-Ok.ensures.formula c.stated_lemma.ensures.refused
