-- Each source is told in its turn.
use Rattle.std.proofs.Common.{◌≡◌, ◌∙◌, ◌<◌, ◌≤◌, ◌+◌, ℕ, zero, suc, List, [], ◌∷◌, ◌++◌, take, drop, map, length, get_or, set, refl, sym, ap, arith, add-one}

module _ {B S : Type 0} (f : B → S) (g : S → S) where
  -- those before the place are told, those from there on aren't yet
  abbrev pub once : ℕ → List B → List S
  once i bs = take i (map f bs) ++ map g (drop i (map f bs))

  told_there : (bs : List B) (i : ℕ) (b new : B) → b ≡ get_or bs i b → i < length bs → f new ≡ g (f b) → once (suc i) (set bs i new) ≡ once i bs
  told_there [] i b new is below e = absurd (omega arith)
  told_there (x ∷ bs) zero b new is below e = ap (λ s. s ∷ map g (map f bs)) (e ∙ ap (λ y. g (f y)) is)
  told_there (x ∷ bs) (suc i) b new is below e = ap (λ ss. f x ∷ ss) (told_there bs i b new is (omega arith) e)

  pub told_next : (bs : List B) (i : ℕ) (b new : B) (all : List S) → b ≡ get_or bs i b → i < length bs → f new ≡ g (f b) → once i bs ≡ all → once (i + 1) (set bs i new) ≡ all
  told_next bs i b new all is below e before = rw add-one (told_there bs i b new is below e ∙ before)

  once_past : (bs : List B) (i : ℕ) → length bs ≤ i → once i bs ≡ map f bs
  once_past [] zero past = refl
  once_past [] (suc i) past = refl
  once_past (x ∷ bs) zero past = absurd (omega arith)
  once_past (x ∷ bs) (suc i) past = ap (λ ss. f x ∷ ss) (once_past bs i (omega arith))

  pub told_all : (bs : List B) (i : ℕ) (all : List S) → length bs ≤ i → once i bs ≡ all → map f bs ≡ all
  told_all bs i all past e = sym (once_past bs i past) ∙ e
