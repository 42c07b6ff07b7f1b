-- The cells that one worker needs, one after another: each next one is the first that is neither among them nor shown by their entries.
use Rattle.std.specs.Prelude.{◌≡◌, ◌⊎◌, ◌<◌, ℕ, List, [], ◌∷◌, length, replicate, slice_index_or, slice_set, Option, Some, None}
use Rattle.std.specs.List.{Contains}
use Rattle.fp_order.specs.declared.entry.Entry.{Entry}
use Rattle.fp_order.specs.declared.entry.Entry.TheVariants.{Unknown}
use Rattle.fp_order.specs.declared.grid.Grid.{Grid}
use Rattle.fp_order.specs.Grid.{cells_of}
use Rattle.fp_shown.specs.Shown.{IsShown}

-- what is known once the full matrix's entry of the cell is
abbrev pub learned : List Entry → List (Option Entry) → ℕ → List (Option Entry)
learned full known k = slice_set known k (Some (slice_index_or full k Unknown))

-- the first cell that is neither known nor shown
pub record IsNextNeeded (g : Grid) (known : List (Option Entry)) (k : ℕ) : Type 0 where
  pub inside : k < length (cells_of g)
  pub unknown : slice_index_or known k None ≡ None
  pub hidden : IsShown g known k → ⊥
  pub first : (j : ℕ) → j < k → slice_index_or known j None ≡ None → IsShown g known j

-- the cells that are needed besides the known ones, in order; they end where each cell is known or shown
abbrev pub IsNeededAfter : Grid → List Entry → List (Option Entry) → List ℕ → Type 0
IsNeededAfter g full known [] = (k : ℕ) → k < length (cells_of g) → slice_index_or known k None ≡ None → IsShown g known k
IsNeededAfter g full known (k ∷ cells) = IsNextNeeded g known k × IsNeededAfter g full (learned full known k) cells

-- no cell is known
abbrev pub nothing_known : Grid → List (Option Entry)
nothing_known g = replicate (length (cells_of g)) None

-- the cells that are needed, in order
abbrev pub IsNeed : Grid → List Entry → List ℕ → Type 0
IsNeed g full cells = IsNeededAfter g full (nothing_known g) cells

-- what is known once the entries of these cells are, too
abbrev pub known_after : List Entry → List (Option Entry) → List ℕ → List (Option Entry)
known_after full known [] = known
known_after full known (k ∷ cells) = known_after full (learned full known k) cells

-- each full matrix has one such list
abbrev pub NeedIsOne : Grid → Type 0
NeedIsOne g = (full : List Entry) → length full ≡ length (cells_of g) →
    (cells : List ℕ) × IsNeed g full cells × ((other : List ℕ) → IsNeed g full other → other ≡ cells)

-- each cell is in the list, or shown by the entries of those in it
abbrev pub NeedShowsRest : Grid → Type 0
NeedShowsRest g = (full : List Entry) → length full ≡ length (cells_of g) → (cells : List ℕ) → IsNeed g full cells →
    (k : ℕ) → k < length (cells_of g) → Contains cells k ⊎ IsShown g (known_after full (nothing_known g) cells) k
