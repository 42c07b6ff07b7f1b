use Rattle.std.proofs.Common.{◌∙◌}
use Rattle.fp_constrain.proofs.Numbered.{instance_leaf, instance_about, instance_table}
use Rattle.fp_constrain.proofs.instance.instance_of.Goals as goal

pub lay-requires-clause-about : goal.lay-requires-clause-about
lay-requires-clause-about c = let e = c.in_ok-number_names.ensures in instance_about _ _ _ _ _ c.requires e.next e.facts

pub lay-requires-clause-table : goal.lay-requires-clause-table
lay-requires-clause-table c = let e = c.in_ok-number_names.ensures in instance_table _ _ _ _ _ _ c.new-table.ensures.items e.table c.as_slice.ensures.value e.next

pub returns-clause-leaf : goal.returns-clause-leaf
returns-clause-leaf c =
    let e = c.in_ok-number_names.ensures in
    let s = c.in_ok-at.ensures in
    instance_leaf _ _ _ _ _ _ _ _ _ _ _ _ _ _ _ c.requires c.new-table.ensures.items (c.as_slice.ensures.value ∙ e.table) e.next e.facts c.in_ok-known.ensures.lays (c.in_ok-known.ensures.step ∙ e.step) s.next s.facts s.value
