-- One order after another.
use Rattle.std.proofs.Common.{◌≡◌, ◌⊎◌, ◌<◌, ◌+◌, ℕ, zero, suc, List, [], ◌∷◌, ◌++◌, length, get_or, arith, inl, inr, subst}
use Rattle.std.proofs.lemmas.Bool.{cases_lt}
use Rattle.fp_order.specs.declared.entry.Entry.{Entry}
use Rattle.fp_order.specs.declared.entry.Entry.TheVariants.{Less, Leq, Unknown}
use Rattle.fp_order.specs.Orders.{IsDecidedAt, IsDecided, IsKept, IsPartial, IsComplete, OrdersJoin, IsBest}
use Rattle.fp_order.proofs.Cons.{here, later, behind, kept_more, kept_rest}

-- a decided row stays decided at its position, whatever comes after
pub decided_left : (e : ℕ → ℕ → Entry) (a b : List ℕ) (r i : ℕ) → IsDecidedAt e a r i → IsDecidedAt e (a ++ b) r i
decided_left e [] b r i d = absurd (omega (arith, d.inside))
decided_left e (c ∷ a) b r zero d = here e c (a ++ b) r d.less
decided_left e (c ∷ a) b r (suc i) d = let t = behind e c a r i d in later e c (a ++ b) r i t.0 (decided_left e a b r i t.1)

pub decided_right : (e : ℕ → ℕ → Entry) (a b : List ℕ) (r i : ℕ) → IsKept e a r → IsDecidedAt e b r i → IsDecidedAt e (a ++ b) r (length a + i)
decided_right e [] b r i k d = let P : ℕ → Type 0 = λ x. IsDecidedAt e b r x in let s : i ≡ 0 + i = omega arith in subst P s d
decided_right e (c ∷ a) b r i k d =
    let t = kept_rest e c a r k in
    let P : ℕ → Type 0 = λ x. IsDecidedAt e (c ∷ (a ++ b)) r x in
    let s : suc (length a + i) ≡ suc (length a) + i = omega arith in
    subst P s (later e c (a ++ b) r (length a + i) t.0 (decided_right e a b r i t.1 d))

pub kept_both : (e : ℕ → ℕ → Entry) (a b : List ℕ) (r : ℕ) → IsKept e a r → IsKept e b r → IsKept e (a ++ b) r
kept_both e [] b r k m = m
kept_both e (c ∷ a) b r k m = let t = kept_rest e c a r k in kept_more e c (a ++ b) r t.0 (kept_both e a b r t.1 m)

pub partial_append : (e : ℕ → ℕ → Entry) (R : ℕ → Type 0) (a b : List ℕ) → IsPartial e R a → IsPartial e R b → IsPartial e R (a ++ b)
partial_append e R a b p q r h = elim (p r h) [
  | inl d ↦ inl (d.0, decided_left e a b r d.0 d.1)
  | inr k ↦ elim (q r h) [ inl d ↦ inl (length a + d.0, decided_right e a b r d.0 k d.1) | inr m ↦ inr (kept_both e a b r k m) ]
]

pub decides_both : (e : ℕ → ℕ → Entry) (R : ℕ → Type 0) (a b : List ℕ) → IsPartial e R a → (r : ℕ) → R r → IsDecided e a r ⊎ IsDecided e b r → IsDecided e (a ++ b) r
decides_both e R a b p r h (inl d) = (d.0, decided_left e a b r d.0 d.1)
decides_both e R a b p r h (inr d) = elim (p r h) [
  | inl f ↦ (f.0, decided_left e a b r f.0 f.1)
  | inr k ↦ (length a + d.0, decided_right e a b r d.0 k d.1)
]

-- an order that decides each row is partial
pub partial_of_all : (e : ℕ → ℕ → Entry) (R : ℕ → Type 0) (a : List ℕ) → ((r : ℕ) → R r → IsDecided e a r) → IsPartial e R a
partial_of_all e R a h r k = inl (h r k)

pub orders_join_lem : (e : ℕ → ℕ → Entry) (R : ℕ → Type 0) → OrdersJoin e R
orders_join_lem e R a b p q = (partial_append e R a b p q, decides_both e R a b p)

pub best_complete : (e : ℕ → ℕ → Entry) (n : ℕ) (R : ℕ → Type 0) (o : List ℕ) → IsBest e n R o → IsComplete e n R o
best_complete e n R o b =
    (λ t. λ r k. b.choice.most t.0 t.1 (partial_of_all e R t.0 t.2) r k (t.2 r k), λ h. (o, b.choice.over, h))

-- where the entries before are Leq and this one Unknown, the row is not decided
pub unknown_ends : (e : ℕ → ℕ → Entry) (o : List ℕ) (r p : ℕ) → ((j : ℕ) → j < p → e (get_or o j 0) r ≡ Leq) → e (get_or o p 0) r ≡ Unknown → IsDecided e o r → ⊥
unknown_ends e o r p before u (i, d) = elim (cases_lt i p) [
  | inl l ↦ let q = before i l in let s = d.less in cc
  | inr l ↦ elim (cases_lt p i) [
    | inl k ↦ let q = d.before p k in cc
    | inr k ↦ let s : i ≡ p = omega arith in let t : e (get_or o p 0) r ≡ Less = rw (← s) d.less in cc
  ]
]

pub kept_undecided : (e : ℕ → ℕ → Entry) (o : List ℕ) (r : ℕ) → IsKept e o r → IsDecided e o r → ⊥
kept_undecided e o r k (i, d) = let q = k i d.inside in let s = d.less in cc
