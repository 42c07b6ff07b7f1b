use Rattle.std.proofs.Common.{arith, ◌≤◌, ◌-◌, length}
use Rattle.fp_file_trees.proofs.Sizes.{rest_smaller}
use Rattle.fp_file_trees.proofs.trees.+put_type.Goals as goal

pub put_types-put_types-requires : goal.put_types-put_types-requires
put_types-put_types-requires t c =
    let some : 1 ≤ length c.args.types.now = omega arith in
    let less = rest_smaller (length c.args.types.now - 1) c.args.types.now some in
    (omega (arith, c.decreases), tt)
