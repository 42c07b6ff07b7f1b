use Rattle.fp_command.proofs.Refusing.{definition_refuses}
use Rattle.fp_command.proofs.definition.define_free.Goals as goal

pub returns-in-Ok-clause-refused : goal.returns-in-Ok-clause-refused
returns-in-Ok-clause-refused c =
    definition_refuses c.args.theory.now c.defined.new.theory c.args.at c.args.name.now c.args.term.now c.in-Ok.body c.defined.result c.requires c.in-Ok.ensures.typed c.defined.ensures.refused
