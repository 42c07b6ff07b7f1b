-- The greedy choice makes the best order.
use Rattle.std.proofs.Common.{◌≡◌, ◌⊎◌, ◌<◌, ◌≤◌, ℕ, zero, suc, List, [], ◌∷◌, refl, arith, inl, inr, sym, subst}
use Rattle.std.proofs.lemmas.Bool.{cases_lt}
use Rattle.fp_order.specs.declared.entry.Entry.{Entry}
use Rattle.fp_order.specs.declared.entry.Entry.TheVariants.{Less, Leq}
use Rattle.fp_order.specs.Orders.{IsDecided, IsPartial, IsIrredundant, IsOver, DecidesMost, IsUpTo, IsChoice, IsBest}
use Rattle.fp_order.specs.Greedy.{Fits, IsNext}
use Rattle.fp_order.proofs.Cons.{Rest, here, later, behind, decided_cases, none_decided, less≢leq, partial_front, partial_rest, partial_more, over_more, over_rest}

-- where no candidate fits, no partial order decides a row
nothing_decided : (e : ℕ → ℕ → Entry) (n : ℕ) (R : ℕ → Type 0) → ((d : ℕ) → d < n → Fits e R d → ⊥) →
    (o : List ℕ) → IsOver n o → IsPartial e R o → (r : ℕ) → R r → IsDecided e o r → ⊥
nothing_decided e n R none [] over p r h d = none_decided e r d
nothing_decided e n R none (c ∷ o) over p r h d = elim (decided_cases e c o r d) [
  | inl l ↦ no_less r h l
  | inr t ↦ nothing_decided e n R none o (over_rest n c o over) (λ q k. partial_rest e R c o p q (k, no_less q k)) r h t.1
] where
  no_less : (q : ℕ) → R q → e c q ≡ Less → ⊥
  no_less q k l = none c (over 0 (omega arith)) (record { known = partial_front e R c o p; some = (q, k, l) })

pub best_end : (e : ℕ → ℕ → Entry) (n : ℕ) (R : ℕ → Type 0) → ((d : ℕ) → d < n → Fits e R d → ⊥) → IsBest e n R []
best_end e n R none = record {
  choice = record {
    over = λ i h. absurd (omega arith);
    partial = λ r h. inr (λ j k. absurd (omega arith));
    irredundant = λ i h. absurd (omega arith);
    most = λ o over p r h d. absurd (nothing_decided e n R none o over p r h d);
  };
  least = λ o h. tt;
}

-- what is left of a choice behind its first candidate is a choice for the rows left
pub choice_rest : (e : ℕ → ℕ → Entry) (n : ℕ) (R : ℕ → Type 0) (c : ℕ) (o : List ℕ) → IsChoice e n R (c ∷ o) → IsChoice e n (Rest e R c) o
choice_rest e n R c o h = record {
  over = over_rest n c o h.over;
  partial = partial_rest e R c o h.partial;
  irredundant = λ i k. let t = h.irredundant (suc i) (omega arith) in let b = behind e c o t.0 i t.2 in (t.0, (t.1, less≢leq _ b.0), b.1);
  most = most_rest;
} where
  known : (r : ℕ) → R r → (e c r ≡ Less) ⊎ (e c r ≡ Leq)
  known = partial_front e R c o h.partial

  most_rest : DecidesMost e n (Rest e R c) o
  most_rest other over p r k d = elim (known r k.0) [
    | inl l ↦ absurd (k.1 l)
    | inr q ↦ elim (decided_cases e c o r (h.most (c ∷ other) (over_more n c other (h.over 0 (omega arith)) over) (partial_more e R c other known p) r k.0 (suc d.0, later e c other r d.0 q d.1))) [
      | inl l ↦ absurd (k.1 l)
      | inr t ↦ t.1
    ]
  ]

-- the first candidate of a choice fits
pub front_fits : (e : ℕ → ℕ → Entry) (n : ℕ) (R : ℕ → Type 0) (c : ℕ) (o : List ℕ) → IsChoice e n R (c ∷ o) → Fits e R c
front_fits e n R c o h = record {
  known = partial_front e R c o h.partial;
  some = let t = h.irredundant 0 (omega arith) in (t.0, t.1, t.2.less);
}

-- a candidate that fits, before a choice for the rows left, is a choice
pub choice_more : (e : ℕ → ℕ → Entry) (n : ℕ) (R : ℕ → Type 0) (c : ℕ) (o : List ℕ) → c < n → Fits e R c → IsChoice e n (Rest e R c) o → IsChoice e n R (c ∷ o)
choice_more e n R c o below fits h = record {
  over = over_more n c o below h.over;
  partial = partial_more e R c o fits.known h.partial;
  irredundant = irr;
  most = most_more;
} where
  irr : IsIrredundant e R (c ∷ o)
  irr zero k = (fits.some.0, fits.some.1, here e c o fits.some.0 fits.some.2)
  irr (suc i) k = let t = h.irredundant i (omega arith) in (t.0, t.1.0, later e c o t.0 i (leq t.0 t.1) t.2) where
    leq : (r : ℕ) → Rest e R c r → e c r ≡ Leq
    leq r t = elim (fits.known r t.0) [ inl l ↦ absurd (t.1 l) | inr q ↦ q ]

  most_more : DecidesMost e n R (c ∷ o)
  most_more other over p r k d = elim (fits.known r k) [
    | inl l ↦ (0, here e c o r l)
    | inr q ↦ let t = h.most other over (λ x y. p x y.0) r (k, less≢leq _ q) d in (suc t.0, later e c o r t.0 q t.1)
  ]

pub best_step : (e : ℕ → ℕ → Entry) (n : ℕ) (R : ℕ → Type 0) (c : ℕ) (o : List ℕ) → IsNext e n R c → IsBest e n (Rest e R c) o → IsBest e n R (c ∷ o)
best_step e n R c o next b = record { choice = made; least = least_more } where
  made : IsChoice e n R (c ∷ o)
  made = choice_more e n R c o next.below next.fits b.choice

  least_more : (other : List ℕ) → IsChoice e n R other → IsUpTo (c ∷ o) other
  least_more [] h = none_decided e next.fits.some.0 (h.most (c ∷ o) made.over made.partial next.fits.some.0 next.fits.some.1 (0, here e c o next.fits.some.0 next.fits.some.2))
  least_more (d ∷ other) h = elim (cases_lt c d) [
    | inl l ↦ inl l
    | inr l ↦ inr (same l, b.least other (let P : ℕ → Type 0 = λ x. IsChoice e n (Rest e R x) other in subst P (sym (same l)) (choice_rest e n R d other h)))
  ] where
    same : d ≤ c → c ≡ d
    same l = elim (cases_lt d c) [ inl k ↦ absurd (next.first d k (front_fits e n R d other h)) | inr k ↦ omega arith ]

-- the same of another set of rows with the same members
choice_rows : (e : ℕ → ℕ → Entry) (n : ℕ) (R Q : ℕ → Type 0) (o : List ℕ) → ((r : ℕ) → R r → Q r) → ((r : ℕ) → Q r → R r) → IsChoice e n R o → IsChoice e n Q o
choice_rows e n R Q o to from h = record {
  over = h.over;
  partial = λ r q. h.partial r (from r q);
  irredundant = λ i k. let t = h.irredundant i k in (t.0, to t.0 t.1, t.2);
  most = λ other over p r q. h.most other over (λ x y. p x (to x y)) r (from r q);
}

pub best_rows : (e : ℕ → ℕ → Entry) (n : ℕ) (R Q : ℕ → Type 0) (o : List ℕ) → ((r : ℕ) → R r → Q r) → ((r : ℕ) → Q r → R r) → IsBest e n R o → IsBest e n Q o
best_rows e n R Q o to from h = record {
  choice = choice_rows e n R Q o to from h.choice;
  least = λ other k. h.least other (choice_rows e n Q R other from to k);
}

-- there is one best order
up_to_both : (a b : List ℕ) → IsUpTo a b → IsUpTo b a → a ≡ b
up_to_both [] [] p q = refl
up_to_both [] (y ∷ b) p q = absurd q
up_to_both (x ∷ a) [] p q = absurd p
up_to_both (x ∷ a) (y ∷ b) (inl l) (inl k) = absurd (omega arith)
up_to_both (x ∷ a) (y ∷ b) (inl l) (inr k) = absurd (omega (arith, k.0))
up_to_both (x ∷ a) (y ∷ b) (inr l) (inl k) = absurd (omega (arith, l.0))
up_to_both (x ∷ a) (y ∷ b) (inr l) (inr k) = let e = up_to_both a b l.1 k.1 in cc (l.0)

pub best_unique : (e : ℕ → ℕ → Entry) (n : ℕ) (R : ℕ → Type 0) (a b : List ℕ) → IsBest e n R a → IsBest e n R b → a ≡ b
best_unique e n R a b p q = up_to_both a b (p.least b q.choice) (q.least a p.choice)
