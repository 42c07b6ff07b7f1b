use Rattle.std.proofs.Common.{◌∙◌, [], take, ap, zero-add}
use Rattle.fp_theory.specs.Tables.{last_types}
use Rattle.fp_theory.proofs.Growing.{growing_cut, types_cut}
use Rattle.fp_theory.proofs.tables.Tables.cut.Goals as goal

pub invariant_of-self : goal.invariant_of-self
invariant_of-self c = (c.self.invariant.0, rw c.truncate.ensures.items (growing_cut [] c.args.number c.self.inside.tables.items c.self.invariant.1))

pub returns : goal.returns
returns c =
    rw (c.truncate.ensures.items, ← c.self.view_is)
    (types_cut [] c.args.number c.self.inside.tables.items c.self.invariant.1 ∙ ap (λ k. take k (last_types [] c.self.inside.tables.items)) (zero-add c.args.number))
