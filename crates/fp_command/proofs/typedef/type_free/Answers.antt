use Rattle.std.proofs.Common.{◌∙◌}
use Rattle.fp_command.proofs.Refusing.{type_refuses}
use Rattle.fp_command.proofs.typedef.type_free.Goals as goal

pub returns-in-Some-clause-refused : goal.returns-in-Some-clause-refused
returns-in-Some-clause-refused c =
    let names = c.args.names in
    type_refuses c.args.theory.now c.type_defined.new.theory c.args.at names.name.now names.abs.now names.rep.now names.fact.now c.in-Some.inhabited c.type_defined.result c.requires
    (c.in_ok-fact.ensures.found ∙ c.in-Some.is) c.type_defined.ensures.refused
