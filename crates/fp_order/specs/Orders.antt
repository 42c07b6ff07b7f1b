-- Orders of candidates over a matrix, whose entries are given as a function of the candidate and the row.
use Rattle.std.specs.Prelude.{◌≡◌, ◌⊎◌, ◌<◌, ℕ, List, [], ◌∷◌, ◌++◌, ◌↔◌, length, slice_index, slice_index_or, Option, None, MatchOption, ⊤}
use Rattle.fp_order.specs.declared.entry.Entry.{Entry}
use Rattle.fp_order.specs.declared.entry.Entry.TheVariants.{Less, Leq}

-- the candidate at position `i` of the order decides the row: it has Less there, and all before it have Leq
pub record IsDecidedAt (entry : ℕ → ℕ → Entry) (order : List ℕ) (row i : ℕ) : Type 0 where
  pub inside : i < length order
  pub less : entry (slice_index order i) row ≡ Less
  pub before : (j : ℕ) → j < i → entry (slice_index order j) row ≡ Leq

-- some candidate of the order decides the row
abbrev pub IsDecided : (ℕ → ℕ → Entry) → List ℕ → ℕ → Type 0
IsDecided entry order row = (i : ℕ) × IsDecidedAt entry order row i

-- all candidates of the order have Leq on the row
abbrev pub IsKept : (ℕ → ℕ → Entry) → List ℕ → ℕ → Type 0
IsKept entry order row = (j : ℕ) → j < length order → entry (slice_index order j) row ≡ Leq

-- each row is decided or kept
abbrev pub IsPartial : (ℕ → ℕ → Entry) → (ℕ → Type 0) → List ℕ → Type 0
IsPartial entry rows order = (row : ℕ) → rows row → IsDecided entry order row ⊎ IsKept entry order row

-- each candidate of the order decides some row
abbrev pub IsIrredundant : (ℕ → ℕ → Entry) → (ℕ → Type 0) → List ℕ → Type 0
IsIrredundant entry rows order =
    (i : ℕ) → i < length order → (row : ℕ) × rows row × IsDecidedAt entry order row i

-- the order is a list of candidates, which are the numbers below `count`
abbrev pub IsOver : ℕ → List ℕ → Type 0
IsOver count order = (i : ℕ) → i < length order → slice_index order i < count

-- each row that some partial order decides is decided by this one
abbrev pub DecidesMost : (ℕ → ℕ → Entry) → ℕ → (ℕ → Type 0) → List ℕ → Type 0
DecidesMost entry count rows order =
    (other : List ℕ) → IsOver count other → IsPartial entry rows other →
    (row : ℕ) → rows row → IsDecided entry other row → IsDecided entry order row

-- the list has the position that decides each of the first `rows` rows, or none at those that are kept
abbrev pub TellsDecided : (ℕ → ℕ → Entry) → ℕ → List ℕ → List (Option ℕ) → Type 0
TellsDecided entry rows order decided = (row : ℕ) → row < rows →
    MatchOption (slice_index_or decided row None) (IsKept entry order row) (λ i. IsDecidedAt entry order row i)

-- the first list is the second or stands before it in the dictionary
abbrev pub IsUpTo : List ℕ → List ℕ → Type 0
IsUpTo [] ys = ⊤
IsUpTo (x ∷ xs) [] = ⊥
IsUpTo (x ∷ xs) (y ∷ ys) = (x < y) ⊎ ((x ≡ y) × IsUpTo xs ys)

-- the orders from which the first is taken
pub record IsChoice (entry : ℕ → ℕ → Entry) (count : ℕ) (rows : ℕ → Type 0) (order : List ℕ) : Type 0 where
  pub over : IsOver count order
  pub partial : IsPartial entry rows order
  pub irredundant : IsIrredundant entry rows order
  pub most : DecidesMost entry count rows order

-- the dictionary-least irredundant partial order among those that decide the greatest set of rows
pub record IsBest (entry : ℕ → ℕ → Entry) (count : ℕ) (rows : ℕ → Type 0) (order : List ℕ) : Type 0 where
  pub choice : IsChoice entry count rows order
  pub least : (other : List ℕ) → IsChoice entry count rows other → IsUpTo order other

-- the order decides each row
abbrev pub DecidesAll : (ℕ → ℕ → Entry) → (ℕ → Type 0) → List ℕ → Type 0
DecidesAll entry rows order = (row : ℕ) → rows row → IsDecided entry order row

-- some order decides each row exactly where this one does
abbrev pub IsComplete : (ℕ → ℕ → Entry) → ℕ → (ℕ → Type 0) → List ℕ → Type 0
IsComplete entry count rows order =
    ((other : List ℕ) × IsOver count other × DecidesAll entry rows other) ↔ DecidesAll entry rows order

-- two partial orders, one after the other, are partial and decide the rows of both
abbrev pub OrdersJoin : (ℕ → ℕ → Entry) → (ℕ → Type 0) → Type 0
OrdersJoin entry rows =
    (first second : List ℕ) → IsPartial entry rows first → IsPartial entry rows second →
    IsPartial entry rows (first ++ second) ×
    ((row : ℕ) → rows row → IsDecided entry first row ⊎ IsDecided entry second row → IsDecided entry (first ++ second) row)
