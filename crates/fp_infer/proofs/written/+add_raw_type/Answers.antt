use Rattle.std.proofs.Common.{arith, ◌≤◌, ◌-◌, length}
use Rattle.fp_constrain.proofs.Sizes.{rest_smaller}
use Rattle.fp_infer.proofs.written.+add_raw_type.Goals as goal

pub add_raw_types-add_raw_types-requires : goal.add_raw_types-add_raw_types-requires
add_raw_types-add_raw_types-requires t c =
    let some : 1 ≤ length c.args.types.now = omega arith in
    let less = rest_smaller (length c.args.types.now - 1) c.args.types.now some in
    (omega (arith, c.decreases), tt)
