use Rattle.std.proofs.Common.{[], sym}
use Rattle.std.proofs.lemmas.List.{take-map}
use Rattle.fp_theory.specs.Places.{seen_entry}
use Rattle.fp_theory.proofs.Placing.{placed_cut}
use Rattle.fp_theory.proofs.named.Named.cut.Goals as goal

pub invariant_of-self : goal.invariant_of-self
invariant_of-self c = rw c.truncate.ensures.items (placed_cut [] c.args.number c.self.inside.entries.items c.self.invariant)

pub returns : goal.returns
returns c = rw (c.truncate.ensures.items, ← c.self.view_is) (sym (take-map seen_entry c.args.number c.self.inside.entries.items))
