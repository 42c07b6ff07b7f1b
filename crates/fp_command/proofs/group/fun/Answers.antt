use Rattle.fp_command.proofs.Grouping.{proved, shown}
use Rattle.fp_command.proofs.group.fun.Goals as goal

pub returns-in-Ok-clause-proved : goal.returns-in-Ok-clause-proved
returns-in-Ok-clause-proved g c = proved c.fun_command.new.theory c.in-Ok.items c.in-Ok.ensures.items

pub returns-in-Ok-clause-shown : goal.returns-in-Ok-clause-shown
returns-in-Ok-clause-shown g c = shown c.fun_command.new.theory c.in-Ok.items c.in-Ok.ensures.items
