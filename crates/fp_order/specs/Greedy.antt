-- Which column a search takes next, and the rows that it then has left.
use Rattle.std.specs.Prelude.{◌≡◌, ◌⊎◌, ◌<◌, ℕ, List, length, slice_index_or, Option, None, Some}
use Rattle.fp_order.specs.declared.entry.Entry.{Entry}
use Rattle.fp_order.specs.declared.entry.Entry.TheVariants.{Less, Leq, Unknown}

-- the rows with no position yet
abbrev pub IsLeft : List (Option ℕ) → ℕ → Type 0
IsLeft decided row = (row < length decided) × (slice_index_or decided row None ≡ None)

-- a row's position once the column at `position` has been taken
abbrev pub marked : Entry → ℕ → Option ℕ → Option ℕ
marked entry position (Some i) = Some i
marked Less position None = Some position
marked Leq position None = None
marked Unknown position None = None

-- the candidate has only Less and Leq on the rows, and Less on one of them
pub record Fits (entry : ℕ → ℕ → Entry) (rows : ℕ → Type 0) (c : ℕ) : Type 0 where
  pub known : (r : ℕ) → rows r → (entry c r ≡ Less) ⊎ (entry c r ≡ Leq)
  pub some : (r : ℕ) × rows r × (entry c r ≡ Less)

-- the first candidate that fits
pub record IsNext (entry : ℕ → ℕ → Entry) (count : ℕ) (rows : ℕ → Type 0) (c : ℕ) : Type 0 where
  pub below : c < count
  pub fits : Fits entry rows c
  pub first : (d : ℕ) → d < c → Fits entry rows d → ⊥

-- no candidate fits
abbrev pub NoneFits : (ℕ → ℕ → Entry) → ℕ → (ℕ → Type 0) → Type 0
NoneFits entry count rows = (d : ℕ) → d < count → Fits entry rows d → ⊥

-- the new list has the rows left on which the column has Less at its position, and else the old one's positions
pub record IsMarked (entry : ℕ → ℕ → Entry) (column position : ℕ) (old new : List (Option ℕ)) : Type 0 where
  pub len : length new ≡ length old
  pub each : (r : ℕ) → r < length old → slice_index_or new r None ≡ marked (entry column r) position (slice_index_or old r None)
