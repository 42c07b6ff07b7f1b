-- The cells that are needed, settled one after another with their verdicts, and the search on what is known.
use Rattle.std.specs.Prelude.{◌≡◌, ◌<◌, ℕ, List, [], ◌∷◌, length, slice_index_or, slice_set, slice_get, Option, Some, None}
use Rattle.fp_order.specs.declared.entry.Entry.{Entry}
use Rattle.fp_order.specs.declared.entry.Entry.TheVariants.{Unknown}
use Rattle.fp_order.specs.declared.grid.Grid.{Grid}
use Rattle.fp_order.specs.Grid.{cells_of}
use Rattle.fp_level.specs.declared.rank.Found.{Found}
use Rattle.fp_level.specs.Result.{IsResult}
use Rattle.fp_rewriting.specs.declared.rule.Rule.{Rule}
use Rattle.fp_shown.specs.Fillings.{IsFilling}
use Rattle.fp_shown.specs.Need.{IsNextNeeded, IsNeed, nothing_known, known_after}
use Rattle.fp_shown.specs.Shown.{IsShown}
use Rattle.fp_simp.specs.declared.cell.CellData.{CellData}
use Rattle.fp_simp.specs.Verdicts.{IsVerdict}

-- the entry is the verdict of the goals with this number
pub record IsVerdictAt (rules : List Rule) (cells : List CellData) (k : ℕ) (v : Entry) : Type 0 where
  pub goals : CellData
  pub at : slice_get cells k ≡ Some goals
  pub is : IsVerdict rules goals v

-- the full matrix of the verdicts
pub record IsMatrixOf (g : Grid) (rules : List Rule) (cells : List CellData) (full : List Entry) : Type 0 where
  pub len : length full ≡ length (cells_of g)
  pub each : (k : ℕ) (v : Entry) → IsVerdictAt rules cells k v → v ≡ slice_index_or full k Unknown

-- each cell is known, or shown by the known ones
abbrev pub AllKnownOrShown : Grid → List (Option Entry) → Type 0
AllKnownOrShown g known = (k : ℕ) → k < length (cells_of g) → slice_index_or known k None ≡ None → IsShown g known k

-- the first cell that is neither known nor shown gets its verdict, again and again, until there is none
pub data Settles (g : Grid) (rules : List Rule) (cells : List CellData) : List (Option Entry) → List ℕ → List (Option Entry) → Type 0 where
  done : (known : List (Option Entry)) → AllKnownOrShown g known → Settles g rules cells known [] known
  more : (known : List (Option Entry)) (k : ℕ) (v : Entry) (order : List ℕ) (last : List (Option Entry)) → IsNextNeeded g known k → IsVerdictAt rules cells k v →
      Settles g rules cells (slice_set known k (Some v)) order last → Settles g rules cells known (k ∷ order) last

-- whatever settles from here settles from where nothing is known
pub record IsOnTheWay (g : Grid) (rules : List Rule) (cells : List CellData) (known : List (Option Entry)) : Type 0 where
  pub back : (order : List ℕ) (last : List (Option Entry)) → Settles g rules cells known order last → (before : List ℕ) × Settles g rules cells (nothing_known g) before last

-- what is known once the needed cells are settled
pub record IsNeeded (g : Grid) (rules : List Rule) (cells : List CellData) (known : List (Option Entry)) : Type 0 where
  pub len : length known ≡ length (cells_of g)
  pub order : List ℕ
  pub settled : Settles g rules cells (nothing_known g) order known

-- the known cells are those that are needed of the matrix of verdicts, which agrees with them, and show all others
pub record IsNeedOf (g : Grid) (full : List Entry) (known : List (Option Entry)) : Type 0 where
  pub order : List ℕ
  pub need : IsNeed g full order
  pub known_is : known ≡ known_after full (nothing_known g) order
  pub closed : AllKnownOrShown g known
  pub filling : IsFilling known full

abbrev pub NeededIsNeed : Grid → List Rule → List CellData → Type 0
NeededIsNeed g rules cells = (known : List (Option Entry)) → IsNeeded g rules cells known → (full : List Entry) → IsMatrixOf g rules cells full → IsNeedOf g full known

abbrev pub entry_or_unknown : Option Entry → Entry
entry_or_unknown (Some v) = v
entry_or_unknown None = Unknown

-- where each cell is known or shown, it is found on each full matrix that agrees with what is known
abbrev pub FindsForEach : Grid → List (Option Entry) → Found → Type 0
FindsForEach g known found = AllKnownOrShown g known → (full : List Entry) → IsFilling known full → IsResult g full found
