-- What the words of orders say of an order with one more candidate in front.
use Rattle.std.proofs.Common.{◌≡◌, ◌⊎◌, ◌<◌, ℕ, zero, suc, List, [], ◌∷◌, get_or, arith, inl, inr}
use Rattle.fp_order.specs.declared.entry.Entry.{Entry}
use Rattle.fp_order.specs.declared.entry.Entry.TheVariants.{Less, Leq}
use Rattle.fp_order.specs.Orders.{IsDecidedAt, IsDecided, IsKept, IsPartial, IsOver}

-- the rows on which the candidate does not have Less
abbrev pub Rest : (ℕ → ℕ → Entry) → (ℕ → Type 0) → ℕ → ℕ → Type 0
Rest entry rows c r = rows r × (entry c r ≡ Less → ⊥)

pub here : (e : ℕ → ℕ → Entry) (c : ℕ) (o : List ℕ) (r : ℕ) → e c r ≡ Less → IsDecidedAt e (c ∷ o) r 0
here e c o r l = record { inside = omega arith; less = l; before = λ j h. absurd (omega arith) }

pub later : (e : ℕ → ℕ → Entry) (c : ℕ) (o : List ℕ) (r i : ℕ) → e c r ≡ Leq → IsDecidedAt e o r i → IsDecidedAt e (c ∷ o) r (suc i)
later e c o r i l d = record { inside = omega (arith, d.inside); less = d.less; before = earlier } where
  earlier : (j : ℕ) → j < suc i → e (get_or (c ∷ o) j 0) r ≡ Leq
  earlier zero h = l
  earlier (suc j) h = d.before j (omega arith)

pub at_front : (e : ℕ → ℕ → Entry) (c : ℕ) (o : List ℕ) (r : ℕ) → IsDecidedAt e (c ∷ o) r 0 → e c r ≡ Less
at_front e c o r d = d.less

pub behind : (e : ℕ → ℕ → Entry) (c : ℕ) (o : List ℕ) (r i : ℕ) → IsDecidedAt e (c ∷ o) r (suc i) → (e c r ≡ Leq) × IsDecidedAt e o r i
behind e c o r i d = (d.before 0 (omega arith), record { inside = omega (arith, d.inside); less = d.less; before = λ j h. d.before (suc j) (omega arith) })

pub kept_more : (e : ℕ → ℕ → Entry) (c : ℕ) (o : List ℕ) (r : ℕ) → e c r ≡ Leq → IsKept e o r → IsKept e (c ∷ o) r
kept_more e c o r l k zero h = l
kept_more e c o r l k (suc j) h = k j (omega arith)

pub kept_rest : (e : ℕ → ℕ → Entry) (c : ℕ) (o : List ℕ) (r : ℕ) → IsKept e (c ∷ o) r → (e c r ≡ Leq) × IsKept e o r
kept_rest e c o r k = (k 0 (omega arith), λ j h. k (suc j) (omega arith))

-- a decided row is decided by the first candidate or by the rest
pub decided_cases : (e : ℕ → ℕ → Entry) (c : ℕ) (o : List ℕ) (r : ℕ) → IsDecided e (c ∷ o) r → (e c r ≡ Less) ⊎ ((e c r ≡ Leq) × IsDecided e o r)
decided_cases e c o r (zero, d) = inl (at_front e c o r d)
decided_cases e c o r (suc i, d) = let t = behind e c o r i d in inr (t.0, (i, t.1))

pub none_decided : (e : ℕ → ℕ → Entry) (r : ℕ) → IsDecided e [] r → ⊥
none_decided e r (i, d) = omega (arith, d.inside)

pub less≢leq : (x : Entry) → x ≡ Leq → x ≡ Less → ⊥
less≢leq x p q = cc

pub partial_front : (e : ℕ → ℕ → Entry) (R : ℕ → Type 0) (c : ℕ) (o : List ℕ) → IsPartial e R (c ∷ o) → (r : ℕ) → R r → (e c r ≡ Less) ⊎ (e c r ≡ Leq)
partial_front e R c o p r h = elim (p r h) [ inl d ↦ elim (decided_cases e c o r d) [ inl l ↦ inl l | inr t ↦ inr t.0 ] | inr k ↦ inr (kept_rest e c o r k).0 ]

pub partial_rest : (e : ℕ → ℕ → Entry) (R : ℕ → Type 0) (c : ℕ) (o : List ℕ) → IsPartial e R (c ∷ o) → IsPartial e (Rest e R c) o
partial_rest e R c o p r h = elim (p r h.0) [ inl d ↦ elim (decided_cases e c o r d) [ inl l ↦ absurd (h.1 l) | inr t ↦ inl t.1 ] | inr k ↦ inr (kept_rest e c o r k).1 ]

pub partial_more : (e : ℕ → ℕ → Entry) (R : ℕ → Type 0) (c : ℕ) (o : List ℕ) → ((r : ℕ) → R r → (e c r ≡ Less) ⊎ (e c r ≡ Leq)) → IsPartial e (Rest e R c) o → IsPartial e R (c ∷ o)
partial_more e R c o known p r h = elim (known r h) [
  | inl l ↦ inl (0, here e c o r l)
  | inr q ↦ elim (p r (h, less≢leq _ q)) [ inl d ↦ inl (suc d.0, later e c o r d.0 q d.1) | inr k ↦ inr (kept_more e c o r q k) ]
]

pub over_more : (n c : ℕ) (o : List ℕ) → c < n → IsOver n o → IsOver n (c ∷ o)
over_more n c o l h zero k = l
over_more n c o l h (suc i) k = h i (omega arith)

pub over_rest : (n c : ℕ) (o : List ℕ) → IsOver n (c ∷ o) → IsOver n o
over_rest n c o h i k = h (suc i) (omega arith)
