use Rattle.std.proofs.Common.{◌∙◌}
use Rattle.fp_kernel.specs.Definitions.{new_constant}
use Rattle.fp_theory.proofs.Returning.{back_from}
use Rattle.fp_theory.proofs.defining.define_named.Goals as goal

pub returns-then-is_err-clause-err_defs : goal.returns-then-is_err-clause-err_defs
returns-then-is_err-clause-err_defs c =
    let d = c.in_ok-theorem.ensures.ok in
    c.back_to.ensures.exact ∙ back_from c.level-level.result (new_constant c.args.name.now d.type c.args.body.now) c.args.defs.now c.define.new.self c.level-level.ensures.number d.list
