-- Every way to cut a simplification comes to one answer.
use Rattle.std.specs.Prelude.{◌≡◌, ℕ}
use Rattle.fp_rewriting.specs.Settling.{Question}
use Rattle.fp_simp.specs.declared.simped.Simped.{Simped}
use Rattle.fp_simp.specs.Tasks.{IsAnswer, IsAnswerAfter}

-- the same answer
pub record AreAlike (a b : Simped) : Type 0 where
  pub term : a.term ≡ b.term
  pub fuel : a.fuel ≡ b.fuel
  pub room : a.room ≡ b.room

-- tasks that are over have the same answer, after equally many steps
abbrev pub HasOneAnswer : Question → Type 0
HasOneAnswer q = (a b : Simped) (i j : ℕ) → IsAnswerAfter q i a → IsAnswerAfter q j b → AreAlike a b × (i ≡ j)

-- it is the answer that is given at once
abbrev pub IsGivenAtOnce : Question → Type 0
IsGivenAtOnce q = (a b : Simped) (i : ℕ) → IsAnswerAfter q i a → IsAnswer q b → AreAlike a b
