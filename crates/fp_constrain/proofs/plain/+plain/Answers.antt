use Rattle.std.proofs.Common.{arith, ◌≤◌, ◌-◌, length}
use Rattle.fp_constrain.proofs.Sizes.{rest_smaller}
use Rattle.fp_constrain.proofs.plain.+plain.Goals as goal

pub plain_types-plain_types-requires : goal.plain_types-plain_types-requires
plain_types-plain_types-requires t c =
    let some : 1 ≤ length c.args.types.now = omega arith in
    let less = rest_smaller (length c.args.types.now - 1) c.args.types.now some in
    (omega (arith, c.decreases), tt)
