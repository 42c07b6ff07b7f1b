-- There is a best order for finitely many rows, and what its front and its rest are.
use Rattle.std.proofs.Common.{◌≡◌, ◌⊎◌, ◌<◌, ◌≤◌, ℕ, zero, suc, List, [], ◌∷◌, refl, arith, inl, inr, sym, subst}
use Rattle.std.proofs.lemmas.Bool.{cases_lt}
use Rattle.fp_order.specs.declared.entry.Entry.{Entry}
use Rattle.fp_order.specs.declared.entry.Entry.TheVariants.{Less, Leq, Unknown}
use Rattle.fp_order.specs.Orders.{IsBest}
use Rattle.fp_order.specs.Greedy.{Fits, IsNext, NoneFits}
use Rattle.fp_order.proofs.Cons.{Rest}
use Rattle.fp_order.proofs.Best.{best_end, best_step, best_unique, choice_rest, choice_more, front_fits}

-- rows below some number, each of which can be tested
pub record IsRows (R : ℕ → Type 0) : Type 0 where
  pub limit : ℕ
  pub below : (r : ℕ) → R r → r < limit
  pub test : (r : ℕ) → R r ⊎ (R r → ⊥)

pub rows_below : (n : ℕ) → IsRows (λ r. r < n)
rows_below n = record { limit = n; below = λ r h. h; test = λ r. elim (cases_lt r n) [ inl l ↦ inl l | inr l ↦ inr (λ k. omega arith) ] }

pub is_less : (x : Entry) → (x ≡ Less) ⊎ (x ≡ Less → ⊥)
is_less Less = inl refl
is_less Leq = inr (λ h. cc)
is_less Unknown = inr (λ h. cc)

abbrev pub rows_rest : (e : ℕ → ℕ → Entry) (R : ℕ → Type 0) (c : ℕ) → IsRows R → IsRows (Rest e R c)
rows_rest e R c rows = record {
  limit = rows.limit;
  below = λ r h. rows.below r h.0;
  test = λ r. elim (rows.test r) [
    | inl h ↦ elim (is_less (e c r)) [ inl l ↦ inr (λ t. t.1 l) | inr l ↦ inl (h, l) ]
    | inr h ↦ inr (λ t. h t.0)
  ];
}

abbrev one_more : {A : Type 0} → A ⊎ (A → ⊥) → ℕ → ℕ
one_more (inl a) n = suc n
one_more (inr a) n = n

-- how many of the rows are below `k`
abbrev pub rows_count : (R : ℕ → Type 0) → ((r : ℕ) → R r ⊎ (R r → ⊥)) → ℕ → ℕ
rows_count R test zero = 0
rows_count R test (suc k) = one_more (test k) (rows_count R test k)

more_le : {A B : Type 0} (a : A ⊎ (A → ⊥)) (b : B ⊎ (B → ⊥)) (m n : ℕ) → (B → A) → m ≤ n → one_more b m ≤ one_more a n
more_le (inl a) (inl b) m n f h = omega arith
more_le (inl a) (inr b) m n f h = omega arith
more_le (inr a) (inl b) m n f h = absurd (a (f b))
more_le (inr a) (inr b) m n f h = h

more_lt : {A B : Type 0} (a : A ⊎ (A → ⊥)) (b : B ⊎ (B → ⊥)) (m n : ℕ) → (B → A) → m < n → one_more b m < one_more a n
more_lt (inl a) (inl b) m n f h = omega arith
more_lt (inl a) (inr b) m n f h = omega arith
more_lt (inr a) (inl b) m n f h = absurd (a (f b))
more_lt (inr a) (inr b) m n f h = h

more_here : {A B : Type 0} (a : A ⊎ (A → ⊥)) (b : B ⊎ (B → ⊥)) (m n : ℕ) → A → (B → ⊥) → m ≤ n → one_more b m < one_more a n
more_here (inl a) (inl b) m n x f h = absurd (f b)
more_here (inl a) (inr b) m n x f h = omega arith
more_here (inr a) b m n x f h = absurd (a x)

count_le : (R Q : ℕ → Type 0) (t : (r : ℕ) → R r ⊎ (R r → ⊥)) (u : (r : ℕ) → Q r ⊎ (Q r → ⊥)) → ((r : ℕ) → Q r → R r) → (k : ℕ) → rows_count Q u k ≤ rows_count R t k
count_le R Q t u sub zero = omega arith
count_le R Q t u sub (suc k) = more_le (t k) (u k) _ _ (sub k) (count_le R Q t u sub k)

pub count_lt : (R Q : ℕ → Type 0) (t : (r : ℕ) → R r ⊎ (R r → ⊥)) (u : (r : ℕ) → Q r ⊎ (Q r → ⊥)) → ((r : ℕ) → Q r → R r) →
    (x : ℕ) → R x → (Q x → ⊥) → (k : ℕ) → x < k → rows_count Q u k < rows_count R t k
count_lt R Q t u sub x h never zero l = absurd (omega arith)
count_lt R Q t u sub x h never (suc k) l = elim (cases_lt x k) [
  | inl m ↦ more_lt (t k) (u k) _ _ (sub k) (count_lt R Q t u sub x h never k m)
  | inr m ↦ let s : x ≡ k = omega arith in more_here (t k) (u k) _ _ (subst R s h) (λ q. never (subst Q (sym s) q)) (count_le R Q t u sub k)
]

pub at_last : (P : ℕ → Type 0) (k : ℕ) → ((r : ℕ) → r < k → P r) → P k → (r : ℕ) → r < suc k → P r
at_last P k h p r l = elim (cases_lt r k) [ inl m ↦ h r m | inr m ↦ let s : k ≡ r = omega arith in subst P s p ]

search_below : (R P : ℕ → Type 0) → ((r : ℕ) → R r ⊎ (R r → ⊥)) → ((r : ℕ) → P r ⊎ (P r → ⊥)) → (k : ℕ) →
    ((r : ℕ) × R r × P r) ⊎ ((r : ℕ) → r < k → R r → P r → ⊥)
search_below R P t u zero = inr (λ r l. absurd (omega arith))
search_below R P t u (suc k) = elim (search_below R P t u k) [
  | inl s ↦ inl s
  | inr none ↦ elim (t k) [
    | inr far ↦ inr (at_last (λ r. R r → P r → ⊥) k none (λ h q. far h))
    | inl h ↦ elim (u k) [
      | inl q ↦ inl (k, h, q)
      | inr other ↦ inr (at_last (λ r. R r → P r → ⊥) k none (λ w q. other q))
    ]
  ]
]

-- one of the rows has the property, or none
pub search_rows : (R P : ℕ → Type 0) → IsRows R → ((r : ℕ) → P r ⊎ (P r → ⊥)) → ((r : ℕ) × R r × P r) ⊎ ((r : ℕ) → R r → P r → ⊥)
search_rows R P rows u = elim (search_below R P rows.test u rows.limit) [
  | inl s ↦ inl s
  | inr none ↦ inr (λ r h q. none r (rows.below r h) h q)
]

is_unknown : (x : Entry) → (x ≡ Unknown) ⊎ (x ≡ Unknown → ⊥)
is_unknown Less = inr (λ h. cc)
is_unknown Leq = inr (λ h. cc)
is_unknown Unknown = inl refl

not_unknown : (x : Entry) → (x ≡ Unknown → ⊥) → (x ≡ Less) ⊎ (x ≡ Leq)
not_unknown Less h = inl refl
not_unknown Leq h = inr refl
not_unknown Unknown h = absurd (h refl)

pub fits_or_not : (e : ℕ → ℕ → Entry) (R : ℕ → Type 0) → IsRows R → (c : ℕ) → Fits e R c ⊎ (Fits e R c → ⊥)
fits_or_not e R rows c = elim (search_rows R (λ r. e c r ≡ Unknown) rows (λ r. is_unknown (e c r))) [
  | inl b ↦ inr (λ f. elim (f.known b.0 b.1) [ inl l ↦ let u = b.2 in cc | inr l ↦ let u = b.2 in cc ])
  | inr known ↦ elim (search_rows R (λ r. e c r ≡ Less) rows (λ r. is_less (e c r))) [
    | inl y ↦ inl (record { known = λ r h. not_unknown (e c r) (known r h); some = y })
    | inr z ↦ inr (λ f. z f.some.0 f.some.1 f.some.2)
  ]
]

-- the first candidate that fits, or none
pub next_or_none : (e : ℕ → ℕ → Entry) (n : ℕ) (R : ℕ → Type 0) → IsRows R → (m : ℕ) → m ≤ n → ((c : ℕ) × IsNext e n R c) ⊎ NoneFits e m R
next_or_none e n R rows zero l = inr (λ d h. absurd (omega arith))
next_or_none e n R rows (suc m) l = elim (next_or_none e n R rows m (omega arith)) [
  | inl t ↦ inl t
  | inr none ↦ elim (fits_or_not e R rows m) [
    | inl f ↦ inl (m, record { below = omega arith; fits = f; first = none })
    | inr none_here ↦ inr (at_last (λ d. Fits e R d → ⊥) m none none_here)
  ]
]

best_by : (e : ℕ → ℕ → Entry) (n fuel : ℕ) (R : ℕ → Type 0) → (rows : IsRows R) → rows_count R rows.test rows.limit ≤ fuel → (o : List ℕ) × IsBest e n R o
best_by e n zero R rows h = elim (next_or_none e n R rows n (omega arith)) [
  | inr none ↦ ([], best_end e n R none)
  | inl t ↦ let s = t.1.fits.some in
      absurd (omega (arith, h, count_lt R (λ r. ⊥) rows.test (λ r. inr (λ x. x)) (λ r x. absurd x) s.0 s.1 (λ x. x) rows.limit (rows.below s.0 s.1)))
]
best_by e n (suc fuel) R rows h = elim (next_or_none e n R rows n (omega arith)) [
  | inr none ↦ ([], best_end e n R none)
  | inl t ↦ let s = t.1.fits.some in
      let less = count_lt R (Rest e R t.0) rows.test (rows_rest e R t.0 rows).test (λ r x. x.0) s.0 s.1 (λ x. x.1 s.2) rows.limit (rows.below s.0 s.1) in
      let o = best_by e n fuel (Rest e R t.0) (rows_rest e R t.0 rows) (omega (arith, h, less)) in
      (t.0 ∷ o.0, best_step e n R t.0 o.0 t.1 o.1)
]

pub best_exists : (e : ℕ → ℕ → Entry) (n : ℕ) (R : ℕ → Type 0) → IsRows R → (o : List ℕ) × IsBest e n R o
best_exists e n R rows = best_by e n (rows_count R rows.test rows.limit) R rows (omega arith)

-- behind the front of a best order is a best order for the rows left
pub best_rest : (e : ℕ → ℕ → Entry) (n : ℕ) (R : ℕ → Type 0) (c : ℕ) (o : List ℕ) → IsBest e n R (c ∷ o) → IsBest e n (Rest e R c) o
best_rest e n R c o b = record {
  choice = choice_rest e n R c o b.choice;
  least = λ other h. elim (b.least (c ∷ other) (choice_more e n R c other (b.choice.over 0 (omega arith)) (front_fits e n R c o b.choice) h)) [
    | inl l ↦ absurd (omega arith)
    | inr t ↦ t.1
  ];
}

-- a best order begins with the first candidate that fits
pub best_front : (e : ℕ → ℕ → Entry) (n : ℕ) (R : ℕ → Type 0) → IsRows R → (c : ℕ) (o : List ℕ) → IsNext e n R c → IsBest e n R o →
    (t : List ℕ) × (o ≡ c ∷ t) × IsBest e n (Rest e R c) t
best_front e n R rows c o next b =
    let t = best_exists e n (Rest e R c) (rows_rest e R c rows) in
    (t.0, best_unique e n R o (c ∷ t.0) b (best_step e n R c t.0 next t.1), t.1)
