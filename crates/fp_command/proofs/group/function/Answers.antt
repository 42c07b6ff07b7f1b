use Rattle.fp_command.proofs.Grouping.{proved, shown}
use Rattle.fp_command.proofs.group.function.Goals as goal

pub returns-in-Ok-clause-proved : goal.returns-in-Ok-clause-proved
returns-in-Ok-clause-proved c = proved c.function_command.new.theory c.in-Ok.items c.in-Ok.ensures.items

pub returns-in-Ok-clause-shown : goal.returns-in-Ok-clause-shown
returns-in-Ok-clause-shown c = shown c.function_command.new.theory c.in-Ok.items c.in-Ok.ensures.items
