-- A rank's entry on a row depends on the cells of that row alone.
use Rattle.std.proofs.Common.{◌≡◌, ◌<◌, ℕ, zero, suc, Bool, true, false, not, ◌&&◌, ◌||◌, List, length, arith, refl, ap, ◌∙◌, if◌then◌else◌}
use Rattle.fp_order.specs.declared.entry.Entry.{Entry}
use Rattle.fp_order.specs.declared.entry.Entry.TheVariants.{Less, Leq, Unknown}
use Rattle.fp_order.specs.declared.grid.Grid.{Grid}
use Rattle.fp_order.specs.declared.grid.Cell.{Cell}
use Rattle.fp_order.specs.Grid.{cell_on, IsGrid, IsCell}
use Rattle.fp_level.specs.declared.rank.Rank.{Rank}
use Rattle.fp_level.specs.declared.rank.Rank.TheVariants.{Column, Max, Min}
use Rattle.fp_level.specs.declared.rank.Extremum.{Extremum}
use Rattle.fp_level.specs.declared.rank.Extremum.TheVariants.{Greatest, Least}
use Rattle.fp_level.specs.Ranks.{has, is_good, some_below, each_below, cell_of, over_count, under_count, over_set, under_set, meets, all_meet, mapping_entry, entry_at, rank_entry, candidate, candidate_entry, IsRank}
use Rattle.fp_shown.proofs.ColumnEffect.{SameOn}
use Rattle.fp_shown.proofs.Inside.{cell_fits}

-- the cells of the row have the same entries
abbrev pub SameCells : Grid → List Entry → List Entry → ℕ → Type 0
SameCells g full other r = (x : Cell) → IsCell g x → x.row ≡ r → entry_at g full x ≡ entry_at g other x

some_same : (t u : ℕ → Bool) (n : ℕ) → ((i : ℕ) → i < n → t i ≡ u i) → some_below t n ≡ some_below u n
some_same t u zero h = refl
some_same t u (suc n) h =
    ap (λ (b : Bool). b || some_below t n) (h n (omega arith)) ∙ ap (λ (b : Bool). u n || b) (some_same t u n (λ i l. h i (omega arith)))

each_same : (t u : ℕ → Bool) (n : ℕ) → ((i : ℕ) → i < n → t i ≡ u i) → each_below t n ≡ each_below u n
each_same t u zero h = refl
each_same t u (suc n) h =
    ap (λ (b : Bool). b && each_below t n) (h n (omega arith)) ∙ ap (λ (b : Bool). u n && b) (each_same t u n (λ i l. h i (omega arith)))

cell_inside : (extremum : Extremum) (g : Grid) (r over under : ℕ) → r < length g.rows → over < over_count extremum g r → under < under_count extremum g r →
    IsCell g (cell_of extremum r over under)
cell_inside Greatest g r over under l o u = record { row = l; source = u; target = o }
cell_inside Least g r over under l o u = record { row = l; source = o; target = u }

cell_row : (extremum : Extremum) (r over under : ℕ) → (cell_of extremum r over under).row ≡ r
cell_row Greatest r over under = refl
cell_row Least r over under = refl

meets_same : (extremum : Extremum) (g : Grid) (full other : List Entry) (leq : Bool) (r set over : ℕ) → r < length g.rows → SameCells g full other r →
    over < over_count extremum g r → meets extremum g full leq r set over ≡ meets extremum g other leq r set over
meets_same extremum g full other leq r set over l same o =
    some_same (λ under. has set under && is_good leq (entry_at g full (cell_of extremum r over under)))
    (λ under. has set under && is_good leq (entry_at g other (cell_of extremum r over under))) (under_count extremum g r)
    (λ under u. ap (λ (e : Entry). has set under && is_good leq e)
    (same (cell_of extremum r over under) (cell_inside extremum g r over under l o u) (cell_row extremum r over under)))

all_same : (extremum : Extremum) (g : Grid) (full other : List Entry) (leq : Bool) (r : ℕ) (sets : List ℕ) → r < length g.rows → SameCells g full other r →
    all_meet extremum g full leq r sets ≡ all_meet extremum g other leq r sets
all_same extremum g full other leq r sets l same =
    each_same (λ over. not (has (over_set extremum g sets r) over) || meets extremum g full leq r (under_set extremum g sets r) over)
    (λ over. not (has (over_set extremum g sets r) over) || meets extremum g other leq r (under_set extremum g sets r) over) (over_count extremum g r)
    (λ over o. ap (λ (b : Bool). not (has (over_set extremum g sets r) over) || b)
    (meets_same extremum g full other leq r (under_set extremum g sets r) over l same o))

mapping_same : (extremum : Extremum) (g : Grid) (full other : List Entry) (r : ℕ) (sets : List ℕ) → r < length g.rows → SameCells g full other r →
    mapping_entry extremum g full sets r ≡ mapping_entry extremum g other sets r
mapping_same extremum g full other r sets l same =
    ap (λ (b : Bool). if b then Less else (if all_meet extremum g full true r sets then Leq else Unknown)) (all_same extremum g full other false r sets l same)
    ∙ ap (λ (b : Bool). if all_meet extremum g other false r sets then Less else (if b then Leq else Unknown)) (all_same extremum g full other true r sets l same)

rank_same : (g : Grid) (full other : List Entry) (r : ℕ) → IsGrid g → r < length g.rows → SameCells g full other r →
    (rank : Rank) → IsRank g.functions rank → rank_entry g full rank r ≡ rank_entry g other rank r
rank_same g full other r h l same (Column measures) fit = same (cell_on g measures r) (cell_fits g measures r h fit l) refl
rank_same g full other r h l same (Max sets) fit = mapping_same Greatest g full other r sets l same
rank_same g full other r h l same (Min sets) fit = mapping_same Least g full other r sets l same

-- candidates that are ranks of the grid have the same entries on the row
pub candidates_same : (g : Grid) (full other : List Entry) (r : ℕ) → IsGrid g → r < length g.rows → SameCells g full other r →
    (ranks : List Rank) → ((d : ℕ) → d < length ranks → IsRank g.functions (candidate ranks d)) →
    SameOn (length ranks) (candidate_entry g full ranks) (candidate_entry g other ranks) r
candidates_same g full other r h l same ranks fit c m = rank_same g full other r h l same (candidate ranks c) (fit c m)
