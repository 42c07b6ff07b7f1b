-- The forced columns, found from the known cells alone.
use Rattle.std.proofs.Common.{◌≡◌, ◌⊎◌, ◌<◌, ◌≤◌, ◌+◌, ℕ, zero, suc, List, [], ◌∷◌, ◌++◌, length, get_or, refl, arith, inl, inr, sym, ◌∙◌, ap, subst, append_assoc, append-nil, length-append, Option, Some, None}
use Rattle.fp_order.specs.declared.entry.Entry.{Entry}
use Rattle.fp_order.specs.declared.entry.Entry.TheVariants.{Less, Leq, Unknown}
use Rattle.fp_order.specs.Orders.{IsDecidedAt, IsKept, IsBest}
use Rattle.fp_order.specs.Greedy.{Fits, IsNext, IsLeft}
use Rattle.fp_order.proofs.Greedy.{undecided, undecided_lt, undecided_length}
use Rattle.fp_order.proofs.Cons.{Rest, here, later, less≢leq, kept_more}
use Rattle.fp_order.proofs.Best.{best_step, best_rows}
use Rattle.fp_order.proofs.Exists.{IsRows, rows_count, count_lt, at_last, search_rows, best_front}
use Rattle.fp_shown.specs.Known.{IsSkipped, IsSure, IsOpen, IsStuck, marked, IsMarked}

-- the rows without a known Less
abbrev pub KnownRest : (ℕ → ℕ → Option Entry) → (ℕ → Type 0) → ℕ → ℕ → Type 0
KnownRest K R c r = R r × (K c r ≡ Some Less → ⊥)

-- the columns that are sure, one after another
abbrev pub Forces : (ℕ → ℕ → Option Entry) → ℕ → List ℕ → (ℕ → Type 0) → Type 0
Forces K n [] R = IsStuck K n R
Forces K n (c ∷ o) R = IsSure K n R c × Forces K n o (KnownRest K R c)

-- the rows that they leave
abbrev pub After : (ℕ → ℕ → Option Entry) → List ℕ → (ℕ → Type 0) → ℕ → Type 0
After K [] R = R
After K (c ∷ o) R = After K o (KnownRest K R c)

-- the entries have the known values
abbrev pub Agrees : (ℕ → ℕ → Option Entry) → (ℕ → ℕ → Entry) → Type 0
Agrees K e = (c r : ℕ) (v : Entry) → K c r ≡ Some v → e c r ≡ v

pub some_less : (x : Option Entry) → (x ≡ Some Less) ⊎ (x ≡ Some Less → ⊥)
some_less (Some Less) = inl refl
some_less (Some Leq) = inr (λ h. cc)
some_less (Some Unknown) = inr (λ h. cc)
some_less None = inr (λ h. cc)

some_unknown : (x : Option Entry) → (x ≡ Some Unknown) ⊎ (x ≡ Some Unknown → ⊥)
some_unknown (Some Less) = inr (λ h. cc)
some_unknown (Some Leq) = inr (λ h. cc)
some_unknown (Some Unknown) = inl refl
some_unknown None = inr (λ h. cc)

is_hole : (x : Option Entry) → (x ≡ None) ⊎ (x ≡ None → ⊥)
is_hole (Some v) = inr (λ h. cc)
is_hole None = inl refl

two_left : (x : Option Entry) → (x ≡ Some Unknown → ⊥) → (x ≡ None → ⊥) → (x ≡ Some Less) ⊎ (x ≡ Some Leq)
two_left (Some Less) u v = inl refl
two_left (Some Leq) u v = inr refl
two_left (Some Unknown) u v = absurd (u refl)
two_left None u v = absurd (v refl)

abbrev pub known_rows : (K : ℕ → ℕ → Option Entry) (R : ℕ → Type 0) (c : ℕ) → IsRows R → IsRows (KnownRest K R c)
known_rows K R c rows = record {
  limit = rows.limit;
  below = λ r h. rows.below r h.0;
  test = λ r. elim (rows.test r) [
    | inl h ↦ elim (some_less (K c r)) [ inl l ↦ inr (λ t. t.1 l) | inr l ↦ inl (h, l) ]
    | inr h ↦ inr (λ t. h t.0)
  ];
}

pub skipped_never_fits : (K : ℕ → ℕ → Option Entry) (e : ℕ → ℕ → Entry) (R : ℕ → Type 0) (c : ℕ) → Agrees K e → IsSkipped K R c → Fits e R c → ⊥
skipped_never_fits K e R c a (inl (r, h, u)) f = let x = a c r Unknown u in elim (f.known r h) [ inl l ↦ cc | inr l ↦ cc ]
skipped_never_fits K e R c a (inr all) f = less≢leq _ (a c f.some.0 Leq (all f.some.0 f.some.1)) f.some.2

-- a sure column comes next in each filling
pub sure_next : (K : ℕ → ℕ → Option Entry) (e : ℕ → ℕ → Entry) (n : ℕ) (R : ℕ → Type 0) (c : ℕ) → Agrees K e → IsSure K n R c → IsNext e n R c
sure_next K e n R c a s = record {
  below = s.below;
  fits = record {
    known = λ r h. elim (s.known r h) [ inl l ↦ inl (a c r Less l) | inr l ↦ inr (a c r Leq l) ];
    some = (s.some.0, s.some.1, a c s.some.0 Less s.some.2);
  };
  first = λ d l f. skipped_never_fits K e R d a (s.before d l) f;
}

pub rest_known : (K : ℕ → ℕ → Option Entry) (e : ℕ → ℕ → Entry) (n : ℕ) (R : ℕ → Type 0) (c : ℕ) → Agrees K e → IsSure K n R c → (r : ℕ) → Rest e R c r → KnownRest K R c r
rest_known K e n R c a s r h = (h.0, λ l. h.1 (a c r Less l))

pub known_rest : (K : ℕ → ℕ → Option Entry) (e : ℕ → ℕ → Entry) (n : ℕ) (R : ℕ → Type 0) (c : ℕ) → Agrees K e → IsSure K n R c → (r : ℕ) → KnownRest K R c r → Rest e R c r
known_rest K e n R c a s r h = (h.0, elim (s.known r h.0) [ inl l ↦ absurd (h.1 l) | inr l ↦ less≢leq _ (a c r Leq l) ])

-- the best order of each filling begins with the forced columns, and goes on with that of the rows left
pub forced_split : (K : ℕ → ℕ → Option Entry) (e : ℕ → ℕ → Entry) (n : ℕ) → Agrees K e → (o : List ℕ) (R : ℕ → Type 0) → IsRows R → Forces K n o R →
    (best : List ℕ) → IsBest e n R best → (t : List ℕ) × (best ≡ o ++ t) × IsBest e n (After K o R) t
forced_split K e n a [] R rows f best b = (best, refl, b)
forced_split K e n a (c ∷ o) R rows f best b =
    let w = best_front e n R rows c best (sure_next K e n R c a f.0) b in
    let m : IsBest e n (KnownRest K R c) w.0 = best_rows e n (Rest e R c) (KnownRest K R c) w.0 (rest_known K e n R c a f.0) (known_rest K e n R c a f.0) w.2 in
    let s = forced_split K e n a o (KnownRest K R c) (known_rows K R c rows) f.1 w.0 m in
    (s.0, w.1 ∙ ap (λ (x : List ℕ). c ∷ x) s.1, s.2)

pub forced_join : (K : ℕ → ℕ → Option Entry) (e : ℕ → ℕ → Entry) (n : ℕ) → Agrees K e → (o : List ℕ) (R : ℕ → Type 0) → Forces K n o R →
    (t : List ℕ) → IsBest e n (After K o R) t → IsBest e n R (o ++ t)
forced_join K e n a [] R f t b = b
forced_join K e n a (c ∷ o) R f t b =
    best_step e n R c (o ++ t) (sure_next K e n R c a f.0)
    (best_rows e n (KnownRest K R c) (Rest e R c) (o ++ t) (known_rest K e n R c a f.0) (rest_known K e n R c a f.0) (forced_join K e n a o (KnownRest K R c) f.1 t b))

-- a row that is not left is decided at one position in each filling
pub decided_at_one : (K : ℕ → ℕ → Option Entry) (n : ℕ) (o : List ℕ) (R : ℕ → Type 0) → Forces K n o R → (r : ℕ) → R r → (After K o R r → ⊥) →
    (i : ℕ) × ((e : ℕ → ℕ → Entry) → Agrees K e → IsDecidedAt e o r i)
decided_at_one K n [] R f r h gone = absurd (gone h)
decided_at_one K n (c ∷ o) R f r h gone = elim (f.0.known r h) [
  | inl l ↦ (0, λ e a. here e c o r (a c r Less l))
  | inr l ↦ let t = decided_at_one K n o (KnownRest K R c) f.1 r (h, λ m. cc) gone in (suc t.0, λ e a. later e c o r t.0 (a c r Leq l) (t.1 e a))
]

-- a row that is left is kept in each filling
pub left_kept : (K : ℕ → ℕ → Option Entry) (n : ℕ) (o : List ℕ) (R : ℕ → Type 0) → Forces K n o R → (r : ℕ) → After K o R r →
    R r × ((e : ℕ → ℕ → Entry) → Agrees K e → IsKept e o r)
left_kept K n [] R f r h = (h, λ e a j k. absurd (omega arith))
left_kept K n (c ∷ o) R f r h =
    let t = left_kept K n o (KnownRest K R c) f.1 r h in
    (t.0.0, λ e a. kept_more e c o r (elim (f.0.known r t.0.0) [ inl l ↦ absurd (t.0.1 l) | inr l ↦ a c r Leq l ]) (t.1 e a))

pub after_rows : (K : ℕ → ℕ → Option Entry) (o : List ℕ) (R : ℕ → Type 0) → IsRows R → IsRows (After K o R)
after_rows K [] R rows = rows
after_rows K (c ∷ o) R rows = after_rows K o (KnownRest K R c) (known_rows K R c rows)

-- the three kinds of column
kind : (K : ℕ → ℕ → Option Entry) (n : ℕ) (R : ℕ → Type 0) → IsRows R → (c : ℕ) → c < n → ((d : ℕ) → d < c → IsSkipped K R d) →
    IsSure K n R c ⊎ (IsOpen K R c ⊎ IsSkipped K R c)
kind K n R rows c l before = elim (search_rows R (λ r. K c r ≡ Some Unknown) rows (λ r. some_unknown (K c r))) [
  | inl b ↦ inr (inr (inl b))
  | inr fine ↦ elim (search_rows R (λ r. K c r ≡ None) rows (λ r. is_hole (K c r))) [
    | inl h ↦ inr (inl (record { fine = fine; hole = h }))
    | inr whole ↦ elim (search_rows R (λ r. K c r ≡ Some Less) rows (λ r. some_less (K c r))) [
      | inl y ↦ inl (record { below = l; known = λ r h. two_left (K c r) (fine r h) (whole r h); some = y; before = before })
      | inr z ↦ inr (inr (inr (λ r h. elim (two_left (K c r) (fine r h) (whole r h)) [ inl m ↦ absurd (z r h m) | inr m ↦ m ])))
    ]
  ]
]

first_kind : (K : ℕ → ℕ → Option Entry) (n : ℕ) (R : ℕ → Type 0) → IsRows R → (m : ℕ) → m ≤ n →
    ((c : ℕ) × IsSure K n R c) ⊎ (((j : ℕ) × (j < n) × ((d : ℕ) → d < j → IsSkipped K R d) × IsOpen K R j) ⊎ ((d : ℕ) → d < m → IsSkipped K R d))
first_kind K n R rows zero l = inr (inr (λ d h. absurd (omega arith)))
first_kind K n R rows (suc m) l = elim (first_kind K n R rows m (omega arith)) [
  | inl s ↦ inl s
  | inr w ↦ elim w [
    | inl p ↦ inr (inl p)
    | inr before ↦ elim (kind K n R rows m (omega arith) before) [
      | inl s ↦ inl (m, s)
      | inr v ↦ elim v [ inl p ↦ inr (inl (m, omega arith, before, p)) | inr q ↦ inr (inr (at_last (λ d. IsSkipped K R d) m before q)) ]
    ]
  ]
]

forces_by : (K : ℕ → ℕ → Option Entry) (n fuel : ℕ) (R : ℕ → Type 0) → (rows : IsRows R) → rows_count R rows.test rows.limit ≤ fuel → (o : List ℕ) × Forces K n o R
forces_by K n zero R rows h = elim (first_kind K n R rows n (omega arith)) [
  | inr w ↦ ([], elim w [ inl p ↦ inr p | inr all ↦ inl all ])
  | inl t ↦ let s = t.1.some in
      absurd (omega (arith, h, count_lt R (λ r. ⊥) rows.test (λ r. inr (λ x. x)) (λ r x. absurd x) s.0 s.1 (λ x. x) rows.limit (rows.below s.0 s.1)))
]
forces_by K n (suc fuel) R rows h = elim (first_kind K n R rows n (omega arith)) [
  | inr w ↦ ([], elim w [ inl p ↦ inr p | inr all ↦ inl all ])
  | inl t ↦ let s = t.1.some in
      let fewer = count_lt R (KnownRest K R t.0) rows.test (known_rows K R t.0 rows).test (λ r x. x.0) s.0 s.1 (λ x. x.1 s.2) rows.limit (rows.below s.0 s.1) in
      let o = forces_by K n fuel (KnownRest K R t.0) (known_rows K R t.0 rows) (omega (arith, h, fewer)) in
      (t.0 ∷ o.0, (t.1, o.1))
]

pub forces_exists : (K : ℕ → ℕ → Option Entry) (n : ℕ) (R : ℕ → Type 0) → IsRows R → (o : List ℕ) × Forces K n o R
forces_exists K n R rows = forces_by K n (rows_count R rows.test rows.limit) R rows (omega arith)

-- the same for rows with the same members
skipped_same : (K : ℕ → ℕ → Option Entry) (R Q : ℕ → Type 0) (d : ℕ) → ((r : ℕ) → R r → Q r) → ((r : ℕ) → Q r → R r) → IsSkipped K R d → IsSkipped K Q d
skipped_same K R Q d to from (inl b) = inl (b.0, to b.0 b.1, b.2)
skipped_same K R Q d to from (inr all) = inr (λ r q. all r (from r q))

forces_same : (K : ℕ → ℕ → Option Entry) (n : ℕ) (o : List ℕ) (R Q : ℕ → Type 0) → ((r : ℕ) → R r → Q r) → ((r : ℕ) → Q r → R r) → Forces K n o R → Forces K n o Q
forces_same K n [] R Q to from (inl all) = inl (λ d l. skipped_same K R Q d to from (all d l))
forces_same K n [] R Q to from (inr (j, l, before, o)) =
    inr (j, l, (λ d k. skipped_same K R Q d to from (before d k)), record { fine = λ r q. o.fine r (from r q); hole = (o.hole.0, to o.hole.0 o.hole.1, o.hole.2) })
forces_same K n (c ∷ o) R Q to from (s, f) = (
  record {
    below = s.below;
    known = λ r q. s.known r (from r q);
    some = (s.some.0, to s.some.0 s.some.1, s.some.2);
    before = λ d l. skipped_same K R Q d to from (s.before d l);
  },
  forces_same K n o (KnownRest K R c) (KnownRest K Q c) (λ r h. (to r h.0, h.1)) (λ r h. (from r h.0, h.1)) f,
)

after_same : (K : ℕ → ℕ → Option Entry) (o : List ℕ) (R Q : ℕ → Type 0) → ((r : ℕ) → R r → Q r) → (r : ℕ) → After K o R r → After K o Q r
after_same K [] R Q to r h = to r h
after_same K (c ∷ o) R Q to r h = after_same K o (KnownRest K R c) (KnownRest K Q c) (λ x k. (to x k.0, k.1)) r h

-- the columns and positions so far: what is forced on the rows left, put after them, is forced
pub record IsForcing (K : ℕ → ℕ → Option Entry) (n rows : ℕ) (columns : List ℕ) (decided : List (Option ℕ)) : Type 0 where
  pub len : length decided ≡ rows
  pub bound : length columns + undecided decided ≤ rows
  pub goes : (o : List ℕ) → Forces K n o (IsLeft decided) → Forces K n (columns ++ o) (λ r. r < rows)
  pub leaves : (o : List ℕ) (r : ℕ) → After K o (IsLeft decided) r → After K (columns ++ o) (λ r. r < rows) r
  pub from : (o : List ℕ) (r : ℕ) → After K (columns ++ o) (λ r. r < rows) r → After K o (IsLeft decided) r

marked_none : (x : Option Entry) (p : ℕ) (o : Option ℕ) → marked x p o ≡ None → (o ≡ None) × (x ≡ Some Less → ⊥)
marked_none (Some Less) p None h = cc
marked_none (Some Leq) p None h = (refl, λ q. cc)
marked_none (Some Unknown) p None h = (refl, λ q. cc)
marked_none None p None h = (refl, λ q. cc)
marked_none x p (Some i) h = cc

none_marked : (x : Option Entry) (p : ℕ) (o : Option ℕ) → o ≡ None → (x ≡ Some Less → ⊥) → marked x p o ≡ None
none_marked (Some Less) p o h k = absurd (k refl)
none_marked (Some Leq) p None h k = refl
none_marked (Some Unknown) p None h k = refl
none_marked None p None h k = refl
none_marked x p (Some i) h k = cc

left_marked : (K : ℕ → ℕ → Option Entry) (c p : ℕ) (old new : List (Option ℕ)) → IsMarked K c p old new → (r : ℕ) → IsLeft new r → KnownRest K (IsLeft old) c r
left_marked K c p old new m r h =
    let k : r < length old = omega (arith, h.0, m.len) in
    let t = marked_none (K c r) p (get_or old r None) (sym (m.each r k) ∙ h.1) in
    ((k, t.0), t.1)

marked_left : (K : ℕ → ℕ → Option Entry) (c p : ℕ) (old new : List (Option ℕ)) → IsMarked K c p old new → (r : ℕ) → KnownRest K (IsLeft old) c r → IsLeft new r
marked_left K c p old new m r h =
    (omega (arith, h.0.0, m.len), m.each r h.0.0 ∙ none_marked (K c r) p (get_or old r None) h.0.1 h.1)

pub fewer_left : (K : ℕ → ℕ → Option Entry) (n c p : ℕ) (old new : List (Option ℕ)) → IsMarked K c p old new → IsSure K n (IsLeft old) c → undecided new < undecided old
fewer_left K n c p old new m s =
    undecided_lt old new m.len (λ r k h. (left_marked K c p old new m r (omega (arith, k, m.len), h)).0.1) s.some.0 s.some.1.0 s.some.1.1
    (λ h. (left_marked K c p old new m s.some.0 (omega (arith, s.some.1.0, m.len), h)).1 s.some.2)

pub forcing_step : (K : ℕ → ℕ → Option Entry) (n rows c : ℕ) (columns : List ℕ) (old new : List (Option ℕ)) →
    IsForcing K n rows columns old → IsSure K n (IsLeft old) c → IsMarked K c (length columns) old new → IsForcing K n rows (columns ++ c ∷ []) new
forcing_step K n rows c columns old new g s m = record {
  len = omega (arith, g.len, m.len);
  bound = simp length-append (omega (arith, g.bound, fewer_left K n c (length columns) old new m s));
  goes = λ o f. let P : List ℕ → Type 0 = λ x. Forces K n x (λ r. r < rows) in
      subst P (sym (append_assoc columns (c ∷ []) o))
      (g.goes (c ∷ o) (s, forces_same K n o (IsLeft new) (KnownRest K (IsLeft old) c) (left_marked K c (length columns) old new m) (marked_left K c (length columns) old new m) f));
  leaves = λ o r h. let P : List ℕ → Type 0 = λ x. After K x (λ r. r < rows) r in
      subst P (sym (append_assoc columns (c ∷ []) o))
      (g.leaves (c ∷ o) r (after_same K o (IsLeft new) (KnownRest K (IsLeft old) c) (left_marked K c (length columns) old new m) r h));
  from = λ o r h. let P : List ℕ → Type 0 = λ x. After K x (λ r. r < rows) r in
      after_same K o (KnownRest K (IsLeft old) c) (IsLeft new) (marked_left K c (length columns) old new m) r
      (g.from (c ∷ o) r (subst P (append_assoc columns (c ∷ []) o) h));
}

pub forcing_start : (K : ℕ → ℕ → Option Entry) (n rows : ℕ) (decided : List (Option ℕ)) → length decided ≡ rows → ((r : ℕ) → r < rows → get_or decided r None ≡ None) → IsForcing K n rows [] decided
forcing_start K n rows decided len none = record {
  len = len;
  bound = omega (arith, undecided_length decided);
  goes = λ o f. forces_same K n o (IsLeft decided) (λ r. r < rows) (λ r h. omega (arith, h.0)) (λ r h. (omega arith, none r h)) f;
  leaves = λ o r h. after_same K o (IsLeft decided) (λ r. r < rows) (λ x k. omega (arith, k.0)) r h;
  from = λ o r h. after_same K o (λ r. r < rows) (IsLeft decided) (λ x k. (omega arith, none x k)) r h;
}

pub forcing_end : (K : ℕ → ℕ → Option Entry) (n rows : ℕ) (columns : List ℕ) (decided : List (Option ℕ)) → IsForcing K n rows columns decided → IsStuck K n (IsLeft decided) → Forces K n columns (λ r. r < rows)
forcing_end K n rows columns decided g stuck = let P : List ℕ → Type 0 = λ x. Forces K n x (λ r. r < rows) in subst P (append-nil columns) (g.goes [] stuck)
