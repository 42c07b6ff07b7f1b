-- The whole search on two matrices on which the column search has one result.
use Rattle.std.proofs.Common.{◌≡◌, ◌<◌, ◌-◌, ◌+◌, ℕ, zero, suc, List, [], ◌∷◌, map, length, get_or, refl, arith, inl, inr, sym, ◌∙◌, ap, subst, Option, Some, None, MatchOption}
use Rattle.std.proofs.lemmas.Bool.{cases_lt}
use Rattle.std.proofs.lemmas.List.{length-map}
use Rattle.fp_order.specs.declared.entry.Entry.{Entry}
use Rattle.fp_order.specs.declared.grid.Grid.{Grid}
use Rattle.fp_order.specs.Grid.{columns_of, IsGrid}
use Rattle.fp_order.specs.Numbers.{number_of}
use Rattle.fp_order.specs.Orders.{IsDecidedAt, IsKept, IsBest}
use Rattle.fp_order.proofs.Best.{best_rows}
use Rattle.fp_order.proofs.Cons.{less≢leq}
use Rattle.fp_level.specs.declared.rank.Rank.{Rank}
use Rattle.fp_level.specs.declared.rank.Rank.TheVariants.{Column}
use Rattle.fp_level.specs.declared.rank.Found.{Found}
use Rattle.fp_level.specs.Ranks.{column_ranks, mappings_of, candidate, candidate_entry, rank_entry}
use Rattle.fp_level.specs.Result.{IsRowDecidedAt, IsRowLeft, IsResult}
use Rattle.fp_level.proofs.Fit.{column_fits, mapping_fits}
use Rattle.fp_level.proofs.Joined.{chosen, decided_front}
use Rattle.fp_shown.specs.Effect.{AgreeAt}
use Rattle.fp_shown.specs.Fillings.{entries_of}
use Rattle.fp_shown.specs.Shown.{number_on, row_of}
use Rattle.fp_shown.proofs.ColumnEffect.{SameColumns, decided_same, kept_same, best_same}
use Rattle.fp_shown.proofs.Inside.{row_of_number}
use Rattle.fp_shown.proofs.RowEntries.{SameCells, candidates_same}

column_at : (columns : List (List ℕ)) (c : ℕ) → candidate (map (λ (x : List ℕ). Column x) columns) c ≡ Column (get_or columns c [])
column_at [] c = refl
column_at (x ∷ columns) zero = refl
column_at (x ∷ columns) (suc c) = column_at columns c

-- a column's entry is that of its cell
column_entry : (g : Grid) (entries : List Entry) (c r : ℕ) → candidate_entry g entries (column_ranks g.functions) c r ≡ entries_of (number_on g) entries c r
unfolding number_on
column_entry g entries c r = ap (λ (k : Rank). rank_entry g entries k r) (column_at (columns_of g.functions) c)

-- the result of the column search on both
abbrev pub ColumnsSame : Grid → List Entry → List Entry → Type 0
ColumnsSame g full other = SameColumns (number_on g) (row_of g) (length (columns_of g.functions)) (length g.rows) full other

-- the entries of columns and of mappings
abbrev by_column : Grid → List Entry → ℕ → ℕ → Entry
by_column g entries = candidate_entry g entries (column_ranks g.functions)

abbrev by_mapping : Grid → List Entry → ℕ → ℕ → Entry
by_mapping g entries = candidate_entry g entries (mappings_of g.functions)

count_same : (g : Grid) → length (column_ranks g.functions) ≡ length (columns_of g.functions)
count_same g = length-map (columns_of g.functions) (λ (x : List ℕ). Column x)

to_cells : (g : Grid) (entries : List Entry) (o : List ℕ) → IsBest (by_column g entries) (length (column_ranks g.functions)) (λ r. r < length g.rows) o →
    IsBest (entries_of (number_on g) entries) (length (columns_of g.functions)) (λ r. r < length g.rows) o
to_cells g entries o b =
    let P : ℕ → Type 0 = λ n. IsBest (by_column g entries) n (λ r. r < length g.rows) o in
    best_same (by_column g entries) (entries_of (number_on g) entries) (length (columns_of g.functions)) (λ r. r < length g.rows)
    (λ r h c l. column_entry g entries c r) o (subst P (count_same g) b)

from_cells : (g : Grid) (entries : List Entry) (o : List ℕ) → IsBest (entries_of (number_on g) entries) (length (columns_of g.functions)) (λ r. r < length g.rows) o →
    IsBest (by_column g entries) (length (column_ranks g.functions)) (λ r. r < length g.rows) o
from_cells g entries o b =
    let P : ℕ → Type 0 = λ n. IsBest (by_column g entries) n (λ r. r < length g.rows) o in
    subst P (sym (count_same g)) (best_same (entries_of (number_on g) entries) (by_column g entries) (length (columns_of g.functions)) (λ r. r < length g.rows)
    (λ r h c l. sym (column_entry g entries c r)) o b)

-- a row that the columns keep has the same cells on both
kept_cells : (g : Grid) (full other : List Entry) → IsGrid g → ColumnsSame g full other → (o : List ℕ) →
    IsBest (by_column g full) (length (column_ranks g.functions)) (λ r. r < length g.rows) o → (r : ℕ) → r < length g.rows → IsKept (by_column g full) o r →
    (k : ℕ) → row_of g k ≡ r → AgreeAt full other k
kept_cells g full other h same o b r l kept =
    same.left o (to_cells g full o b) r l
    (kept_same (length (column_ranks g.functions)) (by_column g full) (entries_of (number_on g) full) o r b.choice.over (λ c m. column_entry g full c r) kept)

kept_row : (g : Grid) (full other : List Entry) → IsGrid g → ColumnsSame g full other → (o : List ℕ) →
    IsBest (by_column g full) (length (column_ranks g.functions)) (λ r. r < length g.rows) o → (r : ℕ) → r < length g.rows → IsKept (by_column g full) o r → SameCells g full other r
kept_row g full other h same o b r l kept x fit at = kept_cells g full other h same o b r l kept (number_of g x) (row_of_number g x fit ∙ at)

-- what the columns keep on the one they keep on the other
kept_on : (g : Grid) (full other : List Entry) → IsGrid g → ColumnsSame g full other → (o : List ℕ) →
    IsBest (by_column g full) (length (column_ranks g.functions)) (λ r. r < length g.rows) o → (r : ℕ) → r < length g.rows → IsKept (by_column g full) o r → IsKept (by_column g other) o r
kept_on g full other h same o b r l kept =
    kept_same (length (column_ranks g.functions)) (by_column g full) (by_column g other) o r b.choice.over
    (candidates_same g full other r h l (kept_row g full other h same o b r l kept) (column_ranks g.functions) (column_fits g.functions)) kept

-- a row that a column decides is decided at the same position on both
decided_on : (g : Grid) (full other : List Entry) → ColumnsSame g full other → (o : List ℕ) →
    IsBest (by_column g full) (length (column_ranks g.functions)) (λ r. r < length g.rows) o → (r i : ℕ) → r < length g.rows → IsDecidedAt (by_column g full) o r i → IsDecidedAt (by_column g other) o r i
decided_on g full other same o b r i l d =
    let n = length (column_ranks g.functions) in
    decided_same n (entries_of (number_on g) other) (by_column g other) o r i b.choice.over (λ c m. sym (column_entry g other c r))
    (same.decided o (to_cells g full o b) r i l
    (decided_same n (by_column g full) (entries_of (number_on g) full) o r i b.choice.over (λ c m. column_entry g full c r) d))

-- a row is decided at one position, and then not left
row_once : (g : Grid) (entries : List Entry) (ranks : List Rank) (r i j : ℕ) → IsRowDecidedAt g entries ranks r i → IsRowDecidedAt g entries ranks r j → i ≡ j
row_once g entries ranks r i j d f = elim (cases_lt i j) [
  | inl l ↦ absurd (less≢leq _ (f.before i l) d.less)
  | inr l ↦ elim (cases_lt j i) [ inl k ↦ absurd (less≢leq _ (d.before j k) f.less) | inr k ↦ omega arith ]
]

not_left : (g : Grid) (entries : List Entry) (ranks : List Rank) (r i : ℕ) → IsRowDecidedAt g entries ranks r i → IsRowLeft g entries ranks r → ⊥
not_left g entries ranks r i d left = less≢leq _ (left i d.inside) d.less

-- what is said of a row, where it is decided at `i` on both
tell_decided : (g : Grid) (full other : List Entry) (ranks : List Rank) (r i : ℕ) → IsRowDecidedAt g full ranks r i → IsRowDecidedAt g other ranks r i → (now : Option ℕ) →
    MatchOption now (IsRowLeft g full ranks r) (λ j. IsRowDecidedAt g full ranks r j) → MatchOption now (IsRowLeft g other ranks r) (λ j. IsRowDecidedAt g other ranks r j)
tell_decided g full other ranks r i d f None t = absurd (not_left g full ranks r i d t)
tell_decided g full other ranks r i d f (Some j) t =
    let P : ℕ → Type 0 = λ k. IsRowDecidedAt g other ranks r k in subst P (row_once g full ranks r i j d t) f

-- what is said of a row, where the ranks have the same entries there
tell_same : (g : Grid) (full other : List Entry) (ranks : List Rank) (r : ℕ) → ((j : ℕ) → j < length ranks → rank_entry g full (candidate ranks j) r ≡ rank_entry g other (candidate ranks j) r) → (now : Option ℕ) →
    MatchOption now (IsRowLeft g full ranks r) (λ j. IsRowDecidedAt g full ranks r j) → MatchOption now (IsRowLeft g other ranks r) (λ j. IsRowDecidedAt g other ranks r j)
tell_same g full other ranks r same None t = λ j l. sym (same j l) ∙ t j l
tell_same g full other ranks r same (Some i) t = record {
  inside = t.inside;
  less = sym (same i t.inside) ∙ t.less;
  before = λ j l. sym (same j (omega (arith, l, t.inside))) ∙ t.before j l;
}

-- the ranks of a result have the same entries on a row with the same cells
ranks_same : (g : Grid) (full other : List Entry) (f : Found) → IsGrid g → (b : IsResult g full f) → (r : ℕ) → r < length g.rows → SameCells g full other r →
    (j : ℕ) → j < length f.ranks → rank_entry g full (candidate f.ranks j) r ≡ rank_entry g other (candidate f.ranks j) r
ranks_same g full other f h b r l same j m =
    let cs = column_ranks g.functions in
    let ms = mappings_of g.functions in
    let p = chosen (λ k. rank_entry g full k r) cs ms b.columns b.mappings f.ranks b.ranks in
    let q = chosen (λ k. rank_entry g other k r) cs ms b.columns b.mappings f.ranks b.ranks in
    elim (cases_lt j (length b.columns)) [
      | inl n ↦ p.front j n ∙ (candidates_same g full other r h l same cs (column_fits g.functions) (get_or b.columns j 0) (b.best_columns.choice.over j n) ∙ sym (q.front j n))
      | inr n ↦
          let i = j - length b.columns in
          let at : j ≡ length b.columns + i = omega arith in
          let k : i < length b.mappings = omega (arith, m, p.len) in
          p.back j i at k ∙ (candidates_same g full other r h l same ms (mapping_fits g.functions) (get_or b.mappings i 0) (b.best_mappings.choice.over i k) ∙ sym (q.back j i at k))
    ]

-- a result of the one is a result of the other
pub found_same : (g : Grid) (full other : List Entry) → IsGrid g → ColumnsSame g full other → ColumnsSame g other full → (f : Found) → IsResult g full f → IsResult g other f
found_same g full other h same back f b = record {
  columns = b.columns;
  mappings = b.mappings;
  best_columns = on_other;
  best_mappings = best_rows (by_mapping g other) (length (mappings_of g.functions)) (Kept full) (Kept other) b.mappings
      (λ r k. (k.0, kept_on g full other h same b.columns b.best_columns r k.0 k.1))
      (λ r k. (k.0, kept_on g other full h back b.columns on_other r k.0 k.1))
      (best_same (by_mapping g full) (by_mapping g other) (length (mappings_of g.functions)) (Kept full)
      (λ r k. candidates_same g full other r h k.0 (kept_row g full other h same b.columns b.best_columns r k.0 k.1) (mappings_of g.functions) (mapping_fits g.functions))
      b.mappings b.best_mappings);
  ranks = b.ranks;
  len = b.len;
  decided = tells;
} where
  Kept : List Entry → ℕ → Type 0
  Kept entries r = (r < length g.rows) × IsKept (by_column g entries) b.columns r

  on_other : IsBest (by_column g other) (length (column_ranks g.functions)) (λ r. r < length g.rows) b.columns
  on_other = from_cells g other b.columns (same.order b.columns (to_cells g full b.columns b.best_columns))

  tells : (r : ℕ) → r < length g.rows → MatchOption (get_or f.decided r None) (IsRowLeft g other f.ranks r) (λ i. IsRowDecidedAt g other f.ranks r i)
  tells r l =
      let cs = column_ranks g.functions in
      let ms = mappings_of g.functions in
      elim (b.best_columns.choice.partial r l) [
        | inl d ↦ tell_decided g full other f.ranks r d.0
            (decided_front g full cs ms b.columns b.mappings f.ranks r d.0 (chosen (λ k. rank_entry g full k r) cs ms b.columns b.mappings f.ranks b.ranks) d.1)
            (decided_front g other cs ms b.columns b.mappings f.ranks r d.0 (chosen (λ k. rank_entry g other k r) cs ms b.columns b.mappings f.ranks b.ranks)
            (decided_on g full other same b.columns b.best_columns r d.0 l d.1))
            (get_or f.decided r None) (b.decided r l)
        | inr k ↦ tell_same g full other f.ranks r
            (ranks_same g full other f h b r l (kept_row g full other h same b.columns b.best_columns r l k)) (get_or f.decided r None) (b.decided r l)
      ]

-- on the rows that a result leaves both have the same cells
pub left_same : (g : Grid) (full other : List Entry) → IsGrid g → ColumnsSame g full other → (f : Found) → IsResult g full f →
    (r : ℕ) → r < length g.rows → get_or f.decided r None ≡ None → (k : ℕ) → row_of g k ≡ r → AgreeAt full other k
left_same g full other h same f b r l none =
    let cs = column_ranks g.functions in
    let ms = mappings_of g.functions in
    elim (b.best_columns.choice.partial r l) [
      | inl d ↦ absurd (not_left g full f.ranks r d.0
          (decided_front g full cs ms b.columns b.mappings f.ranks r d.0 (chosen (λ k. rank_entry g full k r) cs ms b.columns b.mappings f.ranks b.ranks) d.1)
          (rw none at (b.decided r l)))
      | inr k ↦ kept_cells g full other h same b.columns b.best_columns r l k
    ]
