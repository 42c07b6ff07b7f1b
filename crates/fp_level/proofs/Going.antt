-- What a greedy search keeps that begins with some rows decided.
use Rattle.std.proofs.Common.{◌≡◌, ◌⊎◌, ◌<◌, ◌+◌, ℕ, zero, suc, List, [], ◌∷◌, ◌++◌, length, get_or, refl, arith, inl, inr, sym, ◌∙◌, subst, append_assoc, append-nil, Option, None, Some, MatchOption}
use Rattle.fp_order.specs.declared.entry.Entry.{Entry}
use Rattle.fp_order.specs.declared.entry.Entry.TheVariants.{Less, Leq, Unknown}
use Rattle.fp_order.specs.Orders.{IsDecidedAt, IsKept, IsBest}
use Rattle.fp_order.specs.Greedy.{IsLeft, IsNext, NoneFits, marked, IsMarked}
use Rattle.fp_order.proofs.Cons.{Rest, here, kept_more}
use Rattle.fp_order.proofs.Best.{best_end, best_step, best_rows}
use Rattle.fp_order.proofs.Laws.{decided_left, decided_right, kept_both}
use Rattle.fp_order.proofs.Greedy.{left_marked, marked_left}
use Rattle.fp_level.specs.Result.{IsSearched}

read_inside : (xs : List (Option ℕ)) (r i : ℕ) → get_or xs r None ≡ Some i → r < length xs
read_inside [] r i h = cc
read_inside (x ∷ xs) zero i h = omega arith
read_inside (x ∷ xs) (suc r) i h = omega (arith, read_inside xs r i h)

-- what is known of a row that was left at first
abbrev pub Told : (ℕ → ℕ → Entry) → ℕ → List ℕ → ℕ → Option ℕ → Type 0
Told e base order r now = MatchOption now (IsKept e order r) (λ i. (j : ℕ) × (i ≡ base + j) × IsDecidedAt e order r j)

-- what is best for the rows left, put after the order so far, is best for the rows that were left at first
pub record IsGoing (e : ℕ → ℕ → Entry) (n base : ℕ) (old new : List (Option ℕ)) (order : List ℕ) : Type 0 where
  pub len : length new ≡ length old
  pub stays : (r i : ℕ) → get_or old r None ≡ Some i → get_or new r None ≡ Some i
  pub tells : (r : ℕ) → IsLeft old r → Told e base order r (get_or new r None)
  pub goes : (o : List ℕ) → IsBest e n (IsLeft new) o → IsBest e n (IsLeft old) (order ++ o)

pub going_start : (e : ℕ → ℕ → Entry) (n base : ℕ) (old : List (Option ℕ)) → IsGoing e n base old old []
going_start e n base old = record {
  len = refl;
  stays = λ r i h. h;
  tells = λ r h. rw h.1 (λ j k. absurd (omega arith));
  goes = λ o b. b;
}

tells_one : (e : ℕ → ℕ → Entry) (base c : ℕ) (order : List ℕ) (r : ℕ) (x : Entry) → e c r ≡ x → (old : Option ℕ) →
    (old ≡ None → (x ≡ Less) ⊎ (x ≡ Leq)) → Told e base order r old → Told e base (order ++ c ∷ []) r (marked x (base + length order) old)
tells_one e base c order r x s (Some i) known t = (t.0, t.1, decided_left e order (c ∷ []) r t.0 t.2)
tells_one e base c order r Less s None known t =
    let P : ℕ → Type 0 = λ i. IsDecidedAt e (order ++ c ∷ []) r i in
    let z : length order + 0 ≡ length order = omega arith in
    (length order, refl, subst P z (decided_right e order (c ∷ []) r 0 t (here e c [] r s)))
tells_one e base c order r Leq s None known t = kept_both e order (c ∷ []) r t (kept_more e c [] r s (λ j h. absurd (omega arith)))
tells_one e base c order r Unknown s None known t = elim (known refl) [ inl l ↦ cc | inr l ↦ cc ]

pub going_step : (e : ℕ → ℕ → Entry) (n base c position : ℕ) (order : List ℕ) (old new newer : List (Option ℕ)) → position ≡ base + length order →
    IsGoing e n base old new order → IsNext e n (IsLeft new) c → IsMarked e c position new newer → IsGoing e n base old newer (order ++ c ∷ [])
going_step e n base c position order old new newer at g next m = record {
  len = m.len ∙ g.len;
  stays = λ r i h. stay r i (g.stays r i h);
  tells = tells_more;
  goes = λ o b. let P : List ℕ → Type 0 = λ x. IsBest e n (IsLeft old) x in
      subst P (sym (append_assoc order (c ∷ []) o))
      (g.goes (c ∷ o) (best_step e n (IsLeft new) c o next
      (best_rows e n (IsLeft newer) (Rest e (IsLeft new) c) o (left_marked e c position new newer m) (marked_left e c position new newer m) b)));
} where
  stay : (r i : ℕ) → get_or new r None ≡ Some i → get_or newer r None ≡ Some i
  stay r i h = m.each r (read_inside new r i h) ∙ rw h refl

  tells_more : (r : ℕ) → IsLeft old r → Told e base (order ++ c ∷ []) r (get_or newer r None)
  tells_more r h =
      let i : r < length new = omega (arith, g.len, h.0) in
      rw (m.each r i, at) (tells_one e base c order r (e c r) refl (get_or new r None) (λ u. next.fits.known r (i, u)) (g.tells r h))

pub going_end : (e : ℕ → ℕ → Entry) (n base : ℕ) (order : List ℕ) (old new : List (Option ℕ)) → IsGoing e n base old new order → NoneFits e n (IsLeft new) → IsSearched e n base old new order
going_end e n base order old new g none = record {
  best = let P : List ℕ → Type 0 = λ x. IsBest e n (IsLeft old) x in subst P (append-nil order) (g.goes [] (best_end e n (IsLeft new) none));
  len = g.len;
  stays = g.stays;
  tells = g.tells;
}
