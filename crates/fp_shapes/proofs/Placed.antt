-- Into a sum and out of it, from the inmost step on and from the outermost.
use Rattle.std.proofs.Common.{◌≡◌, ◌∙◌, ℕ, zero, suc, ◌+◌, ◌<◌, List, [], ◌∷◌, drop, get_or, length, refl, ap, arith}
use Rattle.fp_term.specs.Types.{Typ}
use Rattle.fp_term.specs.Terms.{Tm, app}
use Rattle.fp_shapes.specs.Sums.{sums, left_in, right_in, left_out, right_out, inject, project}
use Rattle.fp_shapes.proofs.Lasts.{further, some_left}

pub only_in : (tys : List Typ) (i : ℕ) (t : Tm) → i + 1 ≡ length tys → t ≡ inject (drop i tys) 0 t
only_in [] i t h = absurd (omega (arith, h))
only_in (s ∷ []) zero t h = refl
only_in (s ∷ u ∷ tys) zero t h = absurd (omega (arith, h))
only_in (s ∷ tys) (suc i) t h = only_in tys i t (omega (arith, h))

pub only_out : (tys : List Typ) (i : ℕ) (t : Tm) → i + 1 ≡ length tys → t ≡ project (drop i tys) 0 t
only_out [] i t h = absurd (omega (arith, h))
only_out (s ∷ []) zero t h = refl
only_out (s ∷ u ∷ tys) zero t h = absurd (omega (arith, h))
only_out (s ∷ tys) (suc i) t h = only_out tys i t (omega (arith, h))

module _ (tys : List Typ) (i : ℕ) (s : Typ) (is : s ≡ get_or tys i s) (h : i + 1 < length tys) where
  both : (y : Typ) × (ys : List Typ) × (drop i tys ≡ s ∷ y ∷ ys) × (drop (i + 1) tys ≡ y ∷ ys)
  both = let l = some_left tys (i + 1) h in (l.0, l.1, further tys i s is (omega (arith, h)) ∙ ap (λ ys. s ∷ ys) l.2, l.2)

  pub first_in : (t : Tm) → app (left_in s (sums (drop (i + 1) tys))) t ≡ inject (drop i tys) 0 t
  first_in t = rw (both.2, both.3) refl

  pub first_out : (t : Tm) → app (left_out s (sums (drop (i + 1) tys))) t ≡ project (drop i tys) 0 t
  first_out t = rw (both.2, both.3) refl

  pub further_in : (n : ℕ) (t : Tm) → app (right_in s (sums (drop (i + 1) tys))) (inject (drop (i + 1) tys) n t) ≡ inject (drop i tys) (suc n) t
  further_in n t = rw (both.2, both.3) refl

  pub further_out : (n : ℕ) (t : Tm) → project (drop (i + 1) tys) n (app (right_out s (sums (drop (i + 1) tys))) t) ≡ project (drop i tys) (suc n) t
  further_out n t = rw (both.2, both.3) refl
