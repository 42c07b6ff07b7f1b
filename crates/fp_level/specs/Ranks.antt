-- Columns and mappings of a grid in their order, and their entries.
use Rattle.std.specs.Prelude.{◌≡◌, ◌<◌, ◌+◌, ◌-◌, ◌^◌, ◌==◌, ◌&&◌, ◌||◌, nat_le, ℕ, zero, suc, Bool, true, false, not, List, [], ◌++◌, map, length, slice_index, slice_index_or, if◌then◌else◌}
use Rattle.std.specs.Int.{bit_at}
use Rattle.fp_order.specs.declared.entry.Entry.{Entry}
use Rattle.fp_order.specs.declared.entry.Entry.TheVariants.{Less, Leq, Unknown}
use Rattle.fp_order.specs.declared.grid.Grid.{Grid}
use Rattle.fp_order.specs.declared.grid.Cell.{Cell}
use Rattle.fp_order.specs.Grid.{caller, callee, sources, targets, choices, columns_of, cell_on, IsColumn}
use Rattle.fp_order.specs.Numbers.{number_of}
use Rattle.fp_level.specs.declared.rank.Rank.{Rank}
use Rattle.fp_level.specs.declared.rank.Rank.TheVariants.{Column, Max, Min}
use Rattle.fp_level.specs.declared.rank.Extremum.{Extremum}
use Rattle.fp_level.specs.declared.rank.Extremum.TheVariants.{Greatest, Least}

-- the choices of one nonempty set of measures for each function, in dictionary order
abbrev pub sets_of : List ℕ → List (List ℕ)
sets_of functions = map (λ choice. map (λ n. n + 1) choice) (choices (map (λ measures. 2 ^ measures - 1) functions))

-- the list, or nothing where it has more than `n` elements
abbrev pub at_most : {A : Type 0} → ℕ → List A → List A
at_most n xs = if nat_le (length xs) n then xs else []

-- all mappings by the greatest value, then all by the least
abbrev pub mappings_of : List ℕ → List Rank
mappings_of functions = at_most 4096 (map Max (sets_of functions) ++ map Min (sets_of functions))

-- the columns as ranks
abbrev pub column_ranks : List ℕ → List Rank
column_ranks functions = map Column (columns_of functions)

abbrev pub rank_of : Extremum → List ℕ → Rank
rank_of Greatest sets = Max sets
rank_of Least sets = Min sets

-- one nonempty set of its measures for each function
pub record IsSets (functions sets : List ℕ) : Type 0 where
  pub len : length sets ≡ length functions
  pub some : (f : ℕ) → f < length functions → 0 < slice_index sets f
  pub below : (f : ℕ) → f < length functions → slice_index sets f < 2 ^ slice_index functions f

-- a rank of the grid
abbrev pub IsRank : List ℕ → Rank → Type 0
IsRank functions (Column measures) = IsColumn functions measures
IsRank functions (Max sets) = IsSets functions sets
IsRank functions (Min sets) = IsSets functions sets

-- the entry of a cell
abbrev pub entry_at : Grid → List Entry → Cell → Entry
entry_at g entries x = slice_index_or entries (number_of g x) Unknown

-- whether the measure is in the set
abbrev pub has : ℕ → ℕ → Bool
has set measure = bit_at set measure == 1

-- whether a number below `n` passes the test, and whether each does
abbrev pub some_below : (ℕ → Bool) → ℕ → Bool
some_below test zero = false
some_below test (suc n) = test n || some_below test n

abbrev pub each_below : (ℕ → Bool) → ℕ → Bool
each_below test zero = true
each_below test (suc n) = test n && each_below test n

-- Less, or also Leq where it is allowed
abbrev pub is_good : Bool → Entry → Bool
is_good leq Less = true
is_good leq Leq = leq
is_good leq Unknown = false

-- The greatest value falls where each measure of the callee falls from one of the caller,
-- the least where each measure of the caller falls to one of the callee.
-- `over` is the first of these measures, `under` the second.
abbrev pub cell_of : Extremum → ℕ → ℕ → ℕ → Cell
cell_of Greatest r over under = record { row = r; source = under; target = over }
cell_of Least r over under = record { row = r; source = over; target = under }

abbrev pub over_count : Extremum → Grid → ℕ → ℕ
over_count Greatest g r = targets g r
over_count Least g r = sources g r

abbrev pub under_count : Extremum → Grid → ℕ → ℕ
under_count Greatest g r = sources g r
under_count Least g r = targets g r

abbrev pub over_set : Extremum → Grid → List ℕ → ℕ → ℕ
over_set Greatest g sets r = slice_index sets (callee g r)
over_set Least g sets r = slice_index sets (caller g r)

abbrev pub under_set : Extremum → Grid → List ℕ → ℕ → ℕ
under_set Greatest g sets r = slice_index sets (caller g r)
under_set Least g sets r = slice_index sets (callee g r)

-- some measure of the set has a good cell with `over`
abbrev pub meets : Extremum → Grid → List Entry → Bool → ℕ → ℕ → ℕ → Bool
meets extremum g entries leq r set over =
    some_below (λ under. has set under && is_good leq (entry_at g entries (cell_of extremum r over under))) (under_count extremum g r)

-- each measure of the one set has a good cell with some measure of the other
abbrev pub all_meet : Extremum → Grid → List Entry → Bool → ℕ → List ℕ → Bool
all_meet extremum g entries leq r sets =
    each_below (λ over. not (has (over_set extremum g sets r) over) || meets extremum g entries leq r (under_set extremum g sets r) over) (over_count extremum g r)

-- the entry of a mapping on a row
abbrev pub mapping_entry : Extremum → Grid → List Entry → List ℕ → ℕ → Entry
mapping_entry extremum g entries sets r =
    if all_meet extremum g entries false r sets then Less else (if all_meet extremum g entries true r sets then Leq else Unknown)

-- the entry of a rank on a row
abbrev pub rank_entry : Grid → List Entry → Rank → ℕ → Entry
rank_entry g entries (Column measures) r = entry_at g entries (cell_on g measures r)
rank_entry g entries (Max sets) r = mapping_entry Greatest g entries sets r
rank_entry g entries (Min sets) r = mapping_entry Least g entries sets r

-- the entry of a candidate of a list of ranks, by its number there
abbrev pub candidate : List Rank → ℕ → Rank
candidate ranks c = slice_index_or ranks c (Column [])

abbrev pub candidate_entry : Grid → List Entry → List Rank → ℕ → ℕ → Entry
candidate_entry g entries ranks c r = rank_entry g entries (candidate ranks c) r
