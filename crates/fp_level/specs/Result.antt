-- The result of the search of a descent matrix.
use Rattle.std.specs.Prelude.{◌≡◌, ◌<◌, ◌+◌, ℕ, List, ◌++◌, map, length, slice_index_or, Option, None, Some, MatchOption}
use Rattle.fp_order.specs.declared.entry.Entry.{Entry}
use Rattle.fp_order.specs.declared.entry.Entry.TheVariants.{Less, Leq}
use Rattle.fp_order.specs.declared.grid.Grid.{Grid}
use Rattle.fp_order.specs.Orders.{IsDecidedAt, IsKept, IsBest}
use Rattle.fp_order.specs.Greedy.{IsLeft}
use Rattle.fp_level.specs.declared.rank.Rank.{Rank}
use Rattle.fp_level.specs.declared.rank.Found.{Found}
use Rattle.fp_level.specs.Ranks.{column_ranks, mappings_of, candidate, candidate_entry, rank_entry}

-- the rank at position `i` decides the row: it has Less there, and all before it have Leq
pub record IsRowDecidedAt (g : Grid) (entries : List Entry) (ranks : List Rank) (row i : ℕ) : Type 0 where
  pub inside : i < length ranks
  pub less : rank_entry g entries (candidate ranks i) row ≡ Less
  pub before : (j : ℕ) → j < i → rank_entry g entries (candidate ranks j) row ≡ Leq

-- the row is left: all ranks have Leq there
abbrev pub IsRowLeft : Grid → List Entry → List Rank → ℕ → Type 0
IsRowLeft g entries ranks row = (j : ℕ) → j < length ranks → rank_entry g entries (candidate ranks j) row ≡ Leq

-- the best order of columns on all rows, and then the best order of mappings on the rows that it leaves
pub record IsResult (g : Grid) (entries : List Entry) (f : Found) : Type 0 where
  pub columns : List ℕ
  pub mappings : List ℕ
  pub best_columns : IsBest (candidate_entry g entries (column_ranks g.functions)) (length (column_ranks g.functions)) (λ r. r < length g.rows) columns
  pub best_mappings : IsBest (candidate_entry g entries (mappings_of g.functions)) (length (mappings_of g.functions))
      (λ r. (r < length g.rows) × IsKept (candidate_entry g entries (column_ranks g.functions)) columns r) mappings
  pub ranks : f.ranks ≡ map (candidate (column_ranks g.functions)) columns ++ map (candidate (mappings_of g.functions)) mappings
  pub len : length f.decided ≡ length g.rows
  pub decided : (row : ℕ) → row < length g.rows →
      MatchOption (slice_index_or f.decided row None) (IsRowLeft g entries f.ranks row) (λ i. IsRowDecidedAt g entries f.ranks row i)

-- what a greedy search among candidates adds to the positions that rows have
pub record IsSearched (entry : ℕ → ℕ → Entry) (count base : ℕ) (old new : List (Option ℕ)) (order : List ℕ) : Type 0 where
  pub best : IsBest entry count (IsLeft old) order
  pub len : length new ≡ length old
  pub stays : (r i : ℕ) → slice_index_or old r None ≡ Some i → slice_index_or new r None ≡ Some i
  pub tells : (r : ℕ) → IsLeft old r →
      MatchOption (slice_index_or new r None) (IsKept entry order r) (λ i. (j : ℕ) × (i ≡ base + j) × IsDecidedAt entry order r j)
