-- The cells that are needed are one list, and show all others.
use Rattle.std.proofs.Common.{◌≡◌, ◌⊎◌, ◌<◌, ◌≤◌, ℕ, zero, suc, List, [], ◌∷◌, length, replicate, get_or, set, refl, arith, inl, inr, sym, ◌∙◌, ap, subst, Option, Some, None}
use Rattle.std.proofs.lemmas.Bool.{cases_lt, cases_eq}
use Rattle.std.proofs.lemmas.List.{get_or-set_other, length-set, length-replicate}
use Rattle.std.specs.List.{Contains}
use Rattle.fp_order.specs.declared.entry.Entry.{Entry}
use Rattle.fp_order.specs.declared.entry.Entry.TheVariants.{Unknown}
use Rattle.fp_order.specs.declared.grid.Grid.{Grid}
use Rattle.fp_order.specs.Grid.{cells_of, columns_of, IsGrid}
use Rattle.fp_order.proofs.Exists.{rows_below, at_last}
use Rattle.fp_shown.specs.Known.{known_at}
use Rattle.fp_shown.specs.Need.{learned, IsNextNeeded, IsNeededAfter, nothing_known, known_after, NeedIsOne, NeedShowsRest}
use Rattle.fp_shown.specs.Shown.{number_on, row_of, IsShown, IsRowShown}
use Rattle.fp_shown.proofs.Cells.{row_inside}
use Rattle.fp_shown.proofs.Forces.{forces_exists, after_rows}
use Rattle.fp_shown.proofs.Free.{shown_row}
use Rattle.fp_shown.proofs.Inside.{inside_grid}
use Rattle.fp_shown.proofs.Longest.{shown_gone, gone_shown}

row_shown : (g : Grid) (known : List (Option Entry)) (k : ℕ) → IsRowShown g known (row_of g k) → IsShown g known k
unfolding IsShown
row_shown g known k w = w

pub shown_test : (g : Grid) (known : List (Option Entry)) → IsGrid g → length known ≡ length (cells_of g) → (k : ℕ) → k < length (cells_of g) → IsShown g known k ⊎ (IsShown g known k → ⊥)
shown_test g known h len k l =
    let n = length (columns_of g.functions) in
    let rows = length g.rows in
    let K = known_at (number_on g) known in
    let inside = inside_grid g known h len in
    let o = forces_exists K n (λ r. r < rows) (rows_below rows) in
    let left = after_rows K o.0 (λ r. r < rows) (rows_below rows) in
    elim (left.test (row_of g k)) [
      | inl a ↦ inr (λ w. shown_gone (number_on g) n rows known o.0 inside o.1 (row_of g k) (shown_row g known k w) a)
      | inr gone ↦ inl (row_shown g known k (gone_shown (number_on g) n rows known o.0 inside o.1 (row_of g k) (row_inside g k h l) gone))
    ]

abbrev ShownIfUnknown : Grid → List (Option Entry) → ℕ → Type 0
ShownIfUnknown g known j = get_or known j None ≡ None → IsShown g known j

next_needed : (g : Grid) (known : List (Option Entry)) → IsGrid g → length known ≡ length (cells_of g) → (m : ℕ) → m ≤ length (cells_of g) →
    ((k : ℕ) × IsNextNeeded g known k) ⊎ ((j : ℕ) → j < m → ShownIfUnknown g known j)
next_needed g known h len zero l = inr (λ j k. absurd (omega arith))
next_needed g known h len (suc m) l = elim (next_needed g known h len m (omega arith)) [
  | inl s ↦ inl s
  | inr before ↦ by_entry before (get_or known m None) refl
] where
  by_entry : ((j : ℕ) → j < m → ShownIfUnknown g known j) → (x : Option Entry) → get_or known m None ≡ x → ((k : ℕ) × IsNextNeeded g known k) ⊎ ((j : ℕ) → j < suc m → ShownIfUnknown g known j)
  by_entry before (Some v) s = inr (at_last (ShownIfUnknown g known) m before (λ none. absurd (let e = sym s ∙ none in cc)))
  by_entry before None s = elim (shown_test g known h len m (omega arith)) [
    | inl w ↦ inr (at_last (ShownIfUnknown g known) m before (λ none. w))
    | inr hidden ↦ inl (m, record { inside = omega arith; unknown = s; hidden = hidden; first = before })
  ]

-- how many cells are not known
pub holes : List (Option Entry) → ℕ
holes [] = 0
holes (None ∷ known) = suc (holes known)
holes (Some v ∷ known) = holes known

pub hole_filled : (known : List (Option Entry)) (k : ℕ) (v : Entry) → k < length known → get_or known k None ≡ None → holes known ≡ suc (holes (set known k (Some v)))
unfolding holes
hole_filled [] k v l h = absurd (omega arith)
hole_filled (None ∷ known) zero v l h = refl
hole_filled (Some x ∷ known) zero v l h = cc
hole_filled (None ∷ known) (suc k) v l h = ap suc (hole_filled known k v (omega arith) h)
hole_filled (Some x ∷ known) (suc k) v l h = hole_filled known k v (omega arith) h

needed_by : (g : Grid) (full : List Entry) → IsGrid g → (fuel : ℕ) (known : List (Option Entry)) → length known ≡ length (cells_of g) → holes known ≤ fuel →
    (cells : List ℕ) × IsNeededAfter g full known cells
needed_by g full h zero known len few = elim (next_needed g known h len (length (cells_of g)) (omega arith)) [
  | inr all ↦ ([], all)
  | inl t ↦ absurd (omega (arith, few, hole_filled known t.0 (get_or full t.0 Unknown) (omega (arith, len, t.1.inside)) t.1.unknown))
]
needed_by g full h (suc fuel) known len few = elim (next_needed g known h len (length (cells_of g)) (omega arith)) [
  | inr all ↦ ([], all)
  | inl t ↦
      let fewer = hole_filled known t.0 (get_or full t.0 Unknown) (omega (arith, len, t.1.inside)) t.1.unknown in
      let rest = needed_by g full h fuel (learned full known t.0) (length-set known t.0 (Some (get_or full t.0 Unknown)) ∙ len) (omega (arith, few, fewer)) in
      (t.0 ∷ rest.0, (t.1, rest.1))
]

-- the first cell that is needed is one
pub next_once : (g : Grid) (known : List (Option Entry)) (k j : ℕ) → IsNextNeeded g known k → IsNextNeeded g known j → k ≡ j
next_once g known k j p q = elim (cases_lt k j) [
  | inl l ↦ absurd (p.hidden (q.first k l p.unknown))
  | inr l ↦ elim (cases_lt j k) [ inl m ↦ absurd (q.hidden (p.first j m q.unknown)) | inr m ↦ omega arith ]
]

pub needed_once : (g : Grid) (full : List Entry) (known : List (Option Entry)) (a b : List ℕ) → IsNeededAfter g full known a → IsNeededAfter g full known b → a ≡ b
needed_once g full known [] [] p q = refl
needed_once g full known [] (j ∷ b) p q = absurd (q.0.hidden (p j q.0.inside q.0.unknown))
needed_once g full known (k ∷ a) [] p q = absurd (p.0.hidden (q k p.0.inside p.0.unknown))
needed_once g full known (k ∷ a) (j ∷ b) p q =
    let s = next_once g known k j p.0 q.0 in
    let P : ℕ → Type 0 = λ x. IsNeededAfter g full (learned full known x) b in
    ap (λ (x : List ℕ). k ∷ x) (needed_once g full (learned full known k) a b p.1 (subst P (sym s) q.1)) ∙ ap (λ (x : ℕ). x ∷ b) s

pub need_is_one : (g : Grid) → IsGrid g → NeedIsOne g
need_is_one g h full len =
    let known = nothing_known g in
    let t = needed_by g full h (holes known) known (length-replicate (length (cells_of g)) None) (omega arith) in
    (t.0, t.1, λ other w. needed_once g full known other t.0 w t.1)

-- a cell that is known in the end was known before, or is in the list
came_from : (full : List Entry) (known : List (Option Entry)) (cells : List ℕ) (k : ℕ) (v : Entry) → get_or (known_after full known cells) k None ≡ Some v →
    (get_or known k None ≡ Some v) ⊎ Contains cells k
came_from full known [] k v h = inl h
came_from full known (j ∷ cells) k v h = elim (came_from full (learned full known j) cells k v h) [
  | inr c ↦ inr (suc c.0, omega (arith, c.1), c.2)
  | inl e ↦ elim (cases_eq k j) [
    | inl s ↦ inr (0, omega arith, sym s)
    | inr off ↦ inl (sym (get_or-set_other known j k (Some (get_or full j Unknown)) None off) ∙ e)
  ]
]

-- in the end each cell is known or shown
pub closed_after : (g : Grid) (full : List Entry) (known : List (Option Entry)) (cells : List ℕ) → IsNeededAfter g full known cells → (k : ℕ) → k < length (cells_of g) →
    ((v : Entry) × (get_or (known_after full known cells) k None ≡ Some v)) ⊎ IsShown g (known_after full known cells) k
closed_after g full known [] all k l = by_entry (get_or known k None) refl where
  by_entry : (x : Option Entry) → get_or known k None ≡ x → ((v : Entry) × (get_or known k None ≡ Some v)) ⊎ IsShown g known k
  by_entry (Some v) s = inl (v, s)
  by_entry None s = inr (all k l s)
closed_after g full known (j ∷ cells) w k l = closed_after g full (learned full known j) cells w.1 k l

none_at : (n k : ℕ) → get_or (replicate n (let none : Option Entry = None in none)) k None ≡ None
none_at zero k = refl
none_at (suc n) zero = refl
none_at (suc n) (suc k) = none_at n k

pub need_shows_rest : (g : Grid) → NeedShowsRest g
need_shows_rest g full len cells w k l = elim (closed_after g full (nothing_known g) cells w k l) [
  | inr s ↦ inr s
  | inl t ↦ elim (came_from full (nothing_known g) cells k t.0 t.1) [
    | inr c ↦ inl c
    | inl e ↦ absurd (let z = sym (none_at (length (cells_of g)) k) ∙ e in cc)
  ]
]
