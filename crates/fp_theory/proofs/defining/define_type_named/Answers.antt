use Rattle.std.proofs.Common.{◌∙◌}
use Rattle.fp_kernel.specs.Definitions.{new_type}
use Rattle.fp_theory.proofs.Returning.{back_from}
use Rattle.fp_theory.proofs.defining.define_type_named.Goals as goal

pub returns-then-is_err-clause-err_defs : goal.returns-then-is_err-clause-err_defs
returns-then-is_err-clause-err_defs c =
    let d = c.in_ok-theorems.ensures.ok in
    let n = c.args.names.now in
    c.back_to.ensures.exact
    ∙ back_from c.level-level.result (new_type n.name.now d.params d.predicate d.inhabitant n.abs.now n.rep.now) c.args.defs.now c.define_type.new.self c.level-level.ensures.number d.list
