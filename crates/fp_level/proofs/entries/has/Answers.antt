use Rattle.std.proofs.Common.{arith, ◌≡◌, refl}
use Rattle.std.specs.Int.{bit_at}
use Rattle.std.proofs.lemmas.Nat.Bits.{bit_at_above}
use Rattle.fp_level.proofs.entries.has.Goals as goal

pub returns-else-measure-lt32 : goal.returns-else-measure-lt32
returns-else-measure-lt32 c = let none : bit_at c.args.set c.args.measure ≡ 0 = bit_at_above c.args.set 32 c.args.measure (omega arith) (omega arith) in rw none refl
