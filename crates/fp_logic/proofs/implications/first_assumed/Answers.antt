use Rattle.std.proofs.Common.{refl}
use Rattle.fp_kernel.specs.Definitions.{whole}
use Rattle.fp_logic.proofs.Discharged.{conjunction_formula}
use Rattle.fp_logic.proofs.implications.first_assumed.Goals as goal

pub assume_known-requires : goal.assume_known-requires
assume_known-requires c = rw c.in_ok-both.ensures (conjunction_formula c.args.defs.now c.args.left.now c.args.right.now c.requires.left c.requires.right)

pub conjunct-requires : goal.conjunct-requires
conjunct-requires c = rw (c.in_ok-itself.ensures, c.in_ok-both.ensures) (whole, refl, c.requires.left, c.requires.right)

pub returns : goal.returns
returns c = rw (c.in_ok-itself.ensures, c.in_ok-both.ensures) at c.conjunct.ensures
