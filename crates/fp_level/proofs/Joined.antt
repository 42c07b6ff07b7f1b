-- Two searches one after another make the result.
use Rattle.std.proofs.Common.{◌≡◌, ◌<◌, ◌+◌, ◌-◌, ℕ, zero, suc, List, [], ◌∷◌, ◌++◌, map, length, get_or, refl, arith, inl, inr, ◌∙◌, ap, subst, Option, Some, None, MatchOption, length-append}
use Rattle.std.proofs.lemmas.Bool.{cases_lt}
use Rattle.std.proofs.lemmas.List.{length-map}
use Rattle.fp_order.specs.declared.entry.Entry.{Entry}
use Rattle.fp_order.specs.declared.entry.Entry.TheVariants.{Leq}
use Rattle.fp_order.specs.declared.grid.Grid.{Grid}
use Rattle.fp_order.specs.Orders.{IsDecidedAt, IsKept}
use Rattle.fp_order.specs.Greedy.{IsLeft}
use Rattle.fp_order.proofs.Best.{best_rows}
use Rattle.fp_order.proofs.Laws.{kept_undecided}
use Rattle.fp_level.specs.declared.rank.Rank.{Rank}
use Rattle.fp_level.specs.declared.rank.Found.{Found}
use Rattle.fp_level.specs.Ranks.{column_ranks, mappings_of, candidate, candidate_entry, rank_entry}
use Rattle.fp_level.specs.Result.{IsRowDecidedAt, IsRowLeft, IsResult, IsSearched}

pub front_at : (ranks : List Rank) (order : List ℕ) (rest : List Rank) (j : ℕ) → j < length order →
    candidate (map (candidate ranks) order ++ rest) j ≡ candidate ranks (get_or order j 0)
front_at ranks [] rest j l = absurd (omega arith)
front_at ranks (c ∷ order) rest zero l = refl
front_at ranks (c ∷ order) rest (suc j) l = front_at ranks order rest j (omega arith)

pub back_at : (ranks : List Rank) (order : List ℕ) (rest : List Rank) (i j : ℕ) → i ≡ length order + j →
    candidate (map (candidate ranks) order ++ rest) i ≡ candidate rest j
back_at ranks [] rest i j s = let e : i ≡ j = omega arith in ap (candidate rest) e
back_at ranks (c ∷ order) rest zero j s = absurd (omega arith)
back_at ranks (c ∷ order) rest (suc i) j s = back_at ranks order rest i j (omega (arith, s))

chosen_at : (ranks : List Rank) (order : List ℕ) (j : ℕ) → j < length order → candidate (map (candidate ranks) order) j ≡ candidate ranks (get_or order j 0)
chosen_at ranks [] j l = absurd (omega arith)
chosen_at ranks (c ∷ order) zero l = refl
chosen_at ranks (c ∷ order) (suc j) l = chosen_at ranks order j (omega arith)

-- the entries of the chosen ranks on a row, those of the first order and then those of the second
pub record Chosen (e : Rank → Entry) (columns mappings : List Rank) (first second : List ℕ) (ranks : List Rank) : Type 0 where
  pub len : length ranks ≡ length first + length second
  pub front : (j : ℕ) → j < length first → e (candidate ranks j) ≡ e (candidate columns (get_or first j 0))
  pub back : (i j : ℕ) → i ≡ length first + j → j < length second → e (candidate ranks i) ≡ e (candidate mappings (get_or second j 0))

pub chosen : (e : Rank → Entry) (columns mappings : List Rank) (first second : List ℕ) (ranks : List Rank) →
    ranks ≡ map (candidate columns) first ++ map (candidate mappings) second → Chosen e columns mappings first second ranks
chosen e columns mappings first second ranks s = record {
  len = ap length s ∙ (length-append (map (candidate columns) first) (map (candidate mappings) second)
      ∙ (ap (λ (n : ℕ). n + length (map (candidate mappings) second)) (length-map first (candidate columns)) ∙ ap (λ (n : ℕ). length first + n) (length-map second (candidate mappings))));
  front = λ j l. ap (λ (t : List Rank). e (candidate t j)) s ∙ ap e (front_at columns first (map (candidate mappings) second) j l);
  back = λ i j at l. ap (λ (t : List Rank). e (candidate t i)) s
      ∙ (ap e (back_at columns first (map (candidate mappings) second) i j at) ∙ ap e (chosen_at mappings second j l));
}

-- a row that the first order decides
pub decided_front : (g : Grid) (entries : List Entry) (columns mappings : List Rank) (first second : List ℕ) (ranks : List Rank) (row j : ℕ) →
    Chosen (λ k. rank_entry g entries k row) columns mappings first second ranks → IsDecidedAt (candidate_entry g entries columns) first row j → IsRowDecidedAt g entries ranks row j
decided_front g entries columns mappings first second ranks row j ch d = record {
  inside = omega (arith, ch.len, d.inside);
  less = ch.front j d.inside ∙ d.less;
  before = λ k l. ch.front k (omega (arith, l, d.inside)) ∙ d.before k l;
}

all_before : (P : ℕ → Type 0) (n m : ℕ) → ((k : ℕ) → k < n → P k) → ((k j : ℕ) → k ≡ n + j → j < m → P k) → (k : ℕ) → k < n + m → P k
all_before P n m front back k l = elim (cases_lt k n) [
  | inl h ↦ front k h
  | inr h ↦ let s : k ≡ n + (k - n) = omega arith in back k (k - n) s (omega arith)
]

-- a row that the first order keeps and the second decides
decided_back : (g : Grid) (entries : List Entry) (columns mappings : List Rank) (first second : List ℕ) (ranks : List Rank) (row i j : ℕ) → i ≡ length first + j →
    Chosen (λ k. rank_entry g entries k row) columns mappings first second ranks → IsKept (candidate_entry g entries columns) first row →
    IsDecidedAt (candidate_entry g entries mappings) second row j → IsRowDecidedAt g entries ranks row i
decided_back g entries columns mappings first second ranks row i j at ch kept d = record {
  inside = omega (arith, ch.len, d.inside, at);
  less = ch.back i j at d.inside ∙ d.less;
  before = λ k l. all_before (λ k. rank_entry g entries (candidate ranks k) row ≡ Leq) (length first) j
      (λ k h. ch.front k h ∙ kept k h)
      (λ k q s h. ch.back k q s (omega (arith, h, d.inside)) ∙ d.before q h) k (omega (arith, l, at));
}

left_both : (g : Grid) (entries : List Entry) (columns mappings : List Rank) (first second : List ℕ) (ranks : List Rank) (row : ℕ) →
    Chosen (λ k. rank_entry g entries k row) columns mappings first second ranks → IsKept (candidate_entry g entries columns) first row →
    IsKept (candidate_entry g entries mappings) second row → IsRowLeft g entries ranks row
left_both g entries columns mappings first second ranks row ch kept keeps k l =
    all_before (λ k. rank_entry g entries (candidate ranks k) row ≡ Leq) (length first) (length second)
    (λ k h. ch.front k h ∙ kept k h) (λ k q s h. ch.back k q s h ∙ keeps q h) k (omega (arith, l, ch.len))

pub result_joined : (g : Grid) (entries : List Entry) (found : Found) (first second : List ℕ) (start middle : List (Option ℕ)) →
    length start ≡ length g.rows → ((r : ℕ) → r < length g.rows → get_or start r None ≡ None) →
    IsSearched (candidate_entry g entries (column_ranks g.functions)) (length (column_ranks g.functions)) 0 start middle first →
    IsSearched (candidate_entry g entries (mappings_of g.functions)) (length (mappings_of g.functions)) (length first) middle found.decided second →
    found.ranks ≡ map (candidate (column_ranks g.functions)) first ++ map (candidate (mappings_of g.functions)) second → IsResult g entries found
result_joined g entries found first second start middle len none a b ranks = record {
  columns = first;
  mappings = second;
  best_columns = best_rows eC (length columns) (IsLeft start) (λ r. r < length g.rows) first (λ r h. omega (arith, h.0, len)) at_start a.best;
  best_mappings = best_rows eM (length mappings) (IsLeft middle) (λ r. (r < length g.rows) × IsKept eC first r) second to_kept from_kept b.best;
  ranks = ranks;
  len = b.len ∙ (a.len ∙ len);
  decided = tells;
} where
  columns : List Rank
  columns = column_ranks g.functions

  mappings : List Rank
  mappings = mappings_of g.functions

  eC : ℕ → ℕ → Entry
  eC = candidate_entry g entries columns

  eM : ℕ → ℕ → Entry
  eM = candidate_entry g entries mappings

  at_start : (r : ℕ) → r < length g.rows → IsLeft start r
  at_start r h = (omega (arith, h, len), none r h)

  kept_of : (r : ℕ) (now : Option ℕ) → now ≡ None → MatchOption now (IsKept eC first r) (λ i. (j : ℕ) × (i ≡ 0 + j) × IsDecidedAt eC first r j) → IsKept eC first r
  kept_of r None s t = t
  kept_of r (Some i) s t = cc

  to_kept : (r : ℕ) → IsLeft middle r → (r < length g.rows) × IsKept eC first r
  to_kept r h = let l : r < length g.rows = omega (arith, h.0, a.len, len) in (l, kept_of r (get_or middle r None) h.1 (a.tells r (at_start r l)))

  none_of : (r : ℕ) (now : Option ℕ) → IsKept eC first r → MatchOption now (IsKept eC first r) (λ i. (j : ℕ) × (i ≡ 0 + j) × IsDecidedAt eC first r j) → now ≡ None
  none_of r None k t = refl
  none_of r (Some i) k t = absurd (kept_undecided eC first r k (t.0, t.2))

  from_kept : (r : ℕ) → (r < length g.rows) × IsKept eC first r → IsLeft middle r
  from_kept r h = (omega (arith, h.0, a.len, len), none_of r (get_or middle r None) h.1 (a.tells r (at_start r h.0)))

  tell_both : (r : ℕ) → r < length g.rows → (now : Option ℕ) → get_or found.decided r None ≡ now → IsLeft middle r →
      MatchOption now (IsKept eM second r) (λ i. (j : ℕ) × (i ≡ length first + j) × IsDecidedAt eM second r j) →
      MatchOption now (IsRowLeft g entries found.ranks r) (λ i. IsRowDecidedAt g entries found.ranks r i)
  tell_both r l None s h t = left_both g entries columns mappings first second found.ranks r (chosen (λ k. rank_entry g entries k r) columns mappings first second found.ranks ranks) (to_kept r h).1 t
  tell_both r l (Some i) s h t = decided_back g entries columns mappings first second found.ranks r i t.0 t.1 (chosen (λ k. rank_entry g entries k r) columns mappings first second found.ranks ranks) (to_kept r h).1 t.2

  tell : (r : ℕ) → r < length g.rows → (now : Option ℕ) → get_or middle r None ≡ now → MatchOption now (IsKept eC first r) (λ i. (j : ℕ) × (i ≡ 0 + j) × IsDecidedAt eC first r j) →
      MatchOption (get_or found.decided r None) (IsRowLeft g entries found.ranks r) (λ i. IsRowDecidedAt g entries found.ranks r i)
  tell r l None s t = let h : IsLeft middle r = (omega (arith, l, a.len, len), s) in tell_both r l (get_or found.decided r None) refl h (b.tells r h)
  tell r l (Some i) s t =
      let P : ℕ → Type 0 = λ k. IsDecidedAt eC first r k in
      let at : t.0 ≡ i = omega (arith, t.1) in
      rw (b.stays r i s) (decided_front g entries columns mappings first second found.ranks r i (chosen (λ k. rank_entry g entries k r) columns mappings first second found.ranks ranks) (subst P at t.2))

  tells : (r : ℕ) → r < length g.rows → MatchOption (get_or found.decided r None) (IsRowLeft g entries found.ranks r) (λ i. IsRowDecidedAt g entries found.ranks r i)
  tells r l = tell r l (get_or middle r None) refl (a.tells r (at_start r l))
