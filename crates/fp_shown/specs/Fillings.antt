-- Partial matrices: which columns the column search of each filling begins with.
-- `at column row` is the number of the cell of a column on a row.
use Rattle.std.specs.Prelude.{◌≡◌, ◌<◌, ℕ, List, ◌++◌, length, slice_index_or, Option, Some, None, MatchOption}
use Rattle.fp_order.specs.declared.entry.Entry.{Entry}
use Rattle.fp_order.specs.declared.entry.Entry.TheVariants.{Unknown}
use Rattle.fp_order.specs.Orders.{IsDecided, IsBest}

-- the entries of a full matrix by column and row
abbrev pub entries_of : (ℕ → ℕ → ℕ) → List Entry → ℕ → ℕ → Entry
entries_of at full column row = slice_index_or full (at column row) Unknown

-- a full matrix that agrees with a partial one on its known cells
pub record IsFilling (known : List (Option Entry)) (full : List Entry) : Type 0 where
  pub len : length full ≡ length known
  pub agrees : (k : ℕ) (v : Entry) → slice_index_or known k None ≡ Some v → slice_index_or full k Unknown ≡ v

-- the second list begins with the first
abbrev pub IsFrontOf : List ℕ → List ℕ → Type 0
IsFrontOf front whole = (rest : List ℕ) × (whole ≡ front ++ rest)

-- the best order of each filling begins with these columns
abbrev pub BeginsEach : (ℕ → ℕ → ℕ) → ℕ → ℕ → List (Option Entry) → List ℕ → Type 0
BeginsEach at count rows known columns =
    (full : List Entry) → IsFilling known full →
    (best : List ℕ) → IsBest (entries_of at full) count (λ r. r < rows) best → IsFrontOf columns best

-- the longest list of columns with which the best order of each filling begins
pub record IsForced (at : ℕ → ℕ → ℕ) (count rows : ℕ) (known : List (Option Entry)) (columns : List ℕ) : Type 0 where
  pub begins : BeginsEach at count rows known columns
  pub longest : (other : List ℕ) → BeginsEach at count rows known other → IsFrontOf other columns

-- the forced columns decide the row in each filling
abbrev pub IsShownRow : (ℕ → ℕ → ℕ) → ℕ → ℕ → List (Option Entry) → ℕ → Type 0
IsShownRow at count rows known row =
    (columns : List ℕ) × IsForced at count rows known columns ×
    ((full : List Entry) → IsFilling known full → IsDecided (entries_of at full) columns row)

-- the second partial matrix knows what the first knows
pub record KnowsMore (known more : List (Option Entry)) : Type 0 where
  pub len : length more ≡ length known
  pub keeps : (k : ℕ) (v : Entry) → slice_index_or known k None ≡ Some v → slice_index_or more k None ≡ Some v

-- each position stands exactly at the rows that are shown
abbrev pub TellsShown : (ℕ → ℕ → ℕ) → ℕ → ℕ → List (Option Entry) → List (Option ℕ) → Type 0
TellsShown at count rows known decided = (row : ℕ) → row < rows →
    MatchOption (slice_index_or decided row None) (IsShownRow at count rows known row → ⊥) (λ _. IsShownRow at count rows known row)

-- what is shown stays shown when more cells are known
abbrev pub ShownStays : (ℕ → ℕ → ℕ) → ℕ → ℕ → ℕ → Type 0
ShownStays at count rows cells = (known more : List (Option Entry)) → length known ≡ cells → KnowsMore known more →
    (row : ℕ) → IsShownRow at count rows known row → IsShownRow at count rows more row
