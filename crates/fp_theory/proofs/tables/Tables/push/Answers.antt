use Rattle.std.proofs.Common.{◌≡◌, ◌∙◌, [], ◌∷◌, ◌++◌, ap}
use Rattle.fp_theory.specs.Tables.{last_types}
use Rattle.fp_theory.proofs.Growing.{last_table, growing_pushed}
use Rattle.fp_theory.proofs.tables.Tables.push.Goals as goal

pub invariant_of-self-2 : goal.invariant_of-self-2
invariant_of-self-2 c =
    let ts = c.self.inside.tables.items in
    let seen : last_types [] ts ≡ c.args.self.now = c.self.view_is in
    let now = c.table-current.ensures in
    let same : c.table-current.result.now.types ≡ last_types [] ts = cc in (
      c.self.invariant.0,
      rw c.in_ok-push.ensures.items
          (growing_pushed [] ts c.in_ok-table.table c.args.ty c.self.invariant.1 (c.in_ok-table.ensures ∙ ap (λ l. l ++ c.args.ty ∷ []) same)),
    )

pub returns-clause-ok : goal.returns-clause-ok
returns-clause-ok c =
    let ts = c.self.inside.tables.items in
    let seen : last_types [] ts ≡ c.args.self.now = c.self.view_is in
    let now = c.table-current.ensures in
    let same : c.table-current.result.now.types ≡ c.args.self.now = cc in
    rw c.in_ok-push.ensures.items (last_table [] ts c.in_ok-table.table ∙ c.in_ok-table.ensures ∙ ap (λ l. l ++ c.args.ty ∷ []) same)
