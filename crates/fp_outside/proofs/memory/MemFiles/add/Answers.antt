use Rattle.std.proofs.Common.{rules}
use Rattle.std.proofs.lemmas.List.{map_push}
use Rattle.fp_outside.proofs.Looking.{PlaceIn-push, name_of-push, left_of-push}
use Rattle.fp_outside.proofs.memory.MemFiles.add.Goals as goal

pub invariant_of-self-2 : goal.invariant_of-self-2
invariant_of-self-2 c = rw c.in_ok-push.ensures.items (PlaceIn-push c.self.inside.entries.items _ c.self.inside.current c.self.invariant)

pub returns-clause-ok : goal.returns-clause-ok
returns-clause-ok c =
    let es = c.self.inside.entries.items in
    let added = c.in_ok-push.ensures.items in
    let named = name_of-push es _ c.self.inside.current _ c.self.invariant added in
    let left = left_of-push es _ c.self.inside.current _ c.self.invariant added in
    rw (named, left, added, map_push) (search rules)
