use Rattle.std.proofs.Common.{arith, ◌≡◌, refl}
use Rattle.std.specs.Int.{bit_at}
use Rattle.std.proofs.lemmas.Nat.Bits.{bit_at_above}
use Rattle.fp_outcome.proofs.parts.is_in.Goals as goal

pub returns-else-number-lt32 : goal.returns-else-number-lt32
returns-else-number-lt32 c = let none : bit_at c.args.set c.args.number ≡ 0 = bit_at_above c.args.set 32 c.args.number (omega arith) (omega arith) in rw none refl
