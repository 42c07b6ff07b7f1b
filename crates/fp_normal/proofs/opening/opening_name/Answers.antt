use Rattle.std.proofs.Common.{arith}
use Rattle.fp_normal.proofs.opening.opening_name.Goals as goal

pub numbered-requires : goal.numbered-requires
numbered-requires c = rw c.in_ok-stem.ensures (omega arith)

pub returns : goal.returns
returns c = rw c.in_ok-stem.ensures at c.numbered.ensures
