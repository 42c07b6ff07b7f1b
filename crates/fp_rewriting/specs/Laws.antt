-- What is true of every simplification.
use Rattle.std.specs.Prelude.{◌≡◌, ◌≤◌}
use Rattle.fp_term.specs.Terms.{Tm}
use Rattle.fp_rewriting.specs.declared.left.Left.{Left}
use Rattle.fp_rewriting.specs.Settling.{Question, IsSimplified}

-- the goal becomes some term
pub record HasResult (q : Question) : Type 0 where
  pub term : Tm
  pub left : Left
  pub by : IsSimplified q term left

-- no goal becomes anything else too, nor with anything else left
pub record AreSame (t u : Tm) (l m : Left) : Type 0 where
  pub term : t ≡ u
  pub left : l ≡ m

abbrev pub HasOneResult : Question → Type 0
HasOneResult q = (t u : Tm) (l m : Left) → IsSimplified q t l → IsSimplified q u m → AreSame t u l m

-- fuel and room don't rise
pub record NeverRises (q : Question) (l : Left) : Type 0 where
  pub fuel : l.fuel ≤ q.fuel
  pub room : l.room ≤ q.room

abbrev pub OnlyFalls : Question → Type 0
OnlyFalls q = (t : Tm) (l : Left) → IsSimplified q t l → NeverRises q l
