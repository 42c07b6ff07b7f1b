-- What the known cells say of a column on the rows left.
use Rattle.std.specs.Prelude.{◌≡◌, ◌⊎◌, ◌<◌, ℕ, List, length, slice_index_or, Option, None, Some}
use Rattle.fp_order.specs.declared.entry.Entry.{Entry}
use Rattle.fp_order.specs.declared.entry.Entry.TheVariants.{Less, Leq, Unknown}
use Rattle.fp_shown.specs.declared.kind.Kind.{Kind}
use Rattle.fp_shown.specs.declared.kind.Kind.TheVariants.{Sure, Open, Skipped}

-- the known entry of a column on a row
abbrev pub known_at : (ℕ → ℕ → ℕ) → List (Option Entry) → ℕ → ℕ → Option Entry
known_at at known c r = slice_index_or known (at c r) None

-- no filling takes the column: it has a known Unknown, or known Leq alone
abbrev pub IsSkipped : (ℕ → ℕ → Option Entry) → (ℕ → Type 0) → ℕ → Type 0
IsSkipped K R c = ((r : ℕ) × R r × (K c r ≡ Some Unknown)) ⊎ ((r : ℕ) → R r → K c r ≡ Some Leq)

-- the column's cells are known, none is Unknown, and at least one is Less
pub record IsWhole (K : ℕ → ℕ → Option Entry) (R : ℕ → Type 0) (c : ℕ) : Type 0 where
  pub known : (r : ℕ) → R r → (K c r ≡ Some Less) ⊎ (K c r ≡ Some Leq)
  pub some : (r : ℕ) × R r × (K c r ≡ Some Less)

-- each filling takes the column next
pub record IsSure (K : ℕ → ℕ → Option Entry) (n : ℕ) (R : ℕ → Type 0) (c : ℕ) : Type 0 where
  pub below : c < n
  pub known : (r : ℕ) → R r → (K c r ≡ Some Less) ⊎ (K c r ≡ Some Leq)
  pub some : (r : ℕ) × R r × (K c r ≡ Some Less)
  pub before : (d : ℕ) → d < c → IsSkipped K R d

-- the column has no known Unknown, and a cell that is not known
pub record IsOpen (K : ℕ → ℕ → Option Entry) (R : ℕ → Type 0) (c : ℕ) : Type 0 where
  pub fine : (r : ℕ) → R r → K c r ≡ Some Unknown → ⊥
  pub hole : (r : ℕ) × R r × (K c r ≡ None)

-- no column is sure to come next
abbrev pub IsStuck : (ℕ → ℕ → Option Entry) → ℕ → (ℕ → Type 0) → Type 0
IsStuck K n R = ((d : ℕ) → d < n → IsSkipped K R d) ⊎ ((j : ℕ) × (j < n) × ((d : ℕ) → d < j → IsSkipped K R d) × IsOpen K R j)

-- what a column's kind says
abbrev pub IsOfKind : (ℕ → ℕ → Option Entry) → (ℕ → Type 0) → ℕ → Kind → Type 0
IsOfKind K R c Sure = IsWhole K R c
IsOfKind K R c Open = IsOpen K R c
IsOfKind K R c Skipped = IsSkipped K R c

-- a row's position once the column at `position` has been taken
abbrev pub marked : Option Entry → ℕ → Option ℕ → Option ℕ
marked entry position (Some i) = Some i
marked (Some Less) position None = Some position
marked (Some Leq) position None = None
marked (Some Unknown) position None = None
marked None position None = None

-- the new list has the rows left on which the column is known as Less at its position, and else the old one's positions
pub record IsMarked (K : ℕ → ℕ → Option Entry) (column position : ℕ) (old new : List (Option ℕ)) : Type 0 where
  pub len : length new ≡ length old
  pub each : (r : ℕ) → r < length old → slice_index_or new r None ≡ marked (K column r) position (slice_index_or old r None)
