use Rattle.std.proofs.Common.{arith, ◌≤◌, ◌-◌, length, refl}
use Rattle.fp_constrain.proofs.Sizes.{rest_smaller}
use Rattle.fp_infer.proofs.Looked.{con_looked, types_looked}
use Rattle.fp_infer.proofs.names.+look.Goals as goal

pub look_at_types-look_at_types-requires : goal.look_at_types-look_at_types-requires
look_at_types-look_at_types-requires t c =
    let some : 1 ≤ length c.args.types.now = omega arith in
    let less = rest_smaller (length c.args.types.now - 1) c.args.types.now some in
    (omega (arith, c.decreases), tt)

pub look_at_type-returns-in_ok-look_at_types-in-Con : goal.look_at_type-returns-in_ok-look_at_types-in-Con
look_at_type-returns-in_ok-look_at_types-in-Con t c =
    con_looked _ _ c.in-Con.name c.in-Con.args.items _ _ _ _ _ _ _ _ _ (rw c.in-Con.is at c.node.ensures) c.as_slice-args.ensures.value c.is_wrong.ensures refl c.place.ensures c.in_ok-keep_if-in-Con.ensures c.in_ok-look_at_types-in-Con.ensures

pub look_at_types-returns-in_ok-look_at_types-in-len1-up : goal.look_at_types-returns-in_ok-look_at_types-in-len1-up
look_at_types-returns-in_ok-look_at_types-in-len1-up t c =
    let some : 1 ≤ length c.args.types.now = omega arith in
    types_looked _ _ _ _ _ _ _ some c.first-item.is c.in_ok-look_at_type-in-len1-up.ensures c.in_ok-look_at_types-in-len1-up.ensures
