use Rattle.std.proofs.Common.{◌∙◌, [], sym, ap}
use Rattle.fp_theory.specs.Tables.{last_types}
use Rattle.fp_theory.proofs.Growing.{last_table}
use Rattle.fp_theory.proofs.tables.Tables.table.Goals as goal

pub returns-in-Some : goal.returns-in-Some
returns-in-Some c =
    let same = sym c.as_slice.ensures.value ∙ c.in-Some.ensures.cases.0 in
    sym (last_table [] c.in-Some.field-0-1.now c.in-Some.last.now) ∙ ap (last_types []) (sym same) ∙ c.self.view_is
