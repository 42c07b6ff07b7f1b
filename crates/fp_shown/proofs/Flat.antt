-- Where an element stands among lists of one length, one after another.
use Rattle.std.proofs.Common.{◌≡◌, ◌<◌, ◌+◌, ◌*◌, ℕ, zero, suc, List, [], ◌∷◌, ◌++◌, map, length, get_or, refl, arith, inl, inr, sym, ◌∙◌, ap, subst, length-append, append_assoc, append-nil, add-one, take}
use Rattle.std.proofs.Math.ListN.{get_or-append}
use Rattle.std.proofs.Math.Seq.{get_or-append_seam, take-suc}
use Rattle.std.proofs.lemmas.Grind.{flat_map-append}
use Rattle.std.proofs.lemmas.Bool.{cases_lt}
use Rattle.std.proofs.lemmas.List.{length-map, map-append, get_or-append-add}
use Rattle.std.specs.List.{flat_map}
use Rattle.fp_order.specs.Grid.{below}

pub below_len : (n : ℕ) → length (below n) ≡ n
below_len zero = refl
below_len (suc n) = omega (arith, length-append (below n) (n ∷ []), below_len n)

pub below_map_len : (f : ℕ → ℕ) (n : ℕ) → length (map f (below n)) ≡ n
below_map_len f n = length-map (below n) f ∙ below_len n

pub below_at : (f : ℕ → ℕ) (n r : ℕ) → r < n → get_or (map f (below n)) r 0 ≡ f r
below_at f zero r l = absurd (omega arith)
below_at f (suc n) r l = rw (map-append f (below n) (n ∷ [])) (elim (cases_lt r n) [
  | inl m ↦ get_or-append (map f (below n)) (f n ∷ []) 0 r (omega (arith, m, below_map_len f n)) ∙ below_at f n r m
  | inr m ↦
      let s : n ≡ r = omega arith in
      let e : length (map f (below n)) ≡ r = below_map_len f n ∙ s in
      subst (λ (i : ℕ). get_or (map f (below n) ++ f n ∷ []) i 0 ≡ f r) e (get_or-append_seam (map f (below n)) (f n) [] 0 ∙ ap f s)
])

pub flat_len : (f : List ℕ → List ℕ) (n : ℕ) → ((x : List ℕ) → length (f x) ≡ n) → (xs : List (List ℕ)) → length (flat_map f xs) ≡ length xs * n
flat_len f n h [] = omega arith
flat_len f n h (x ∷ xs) = omega (arith, length-append (f x) (flat_map f xs), h x, flat_len f n h xs)

pub flat_at : (f : List ℕ → List ℕ) (n : ℕ) → ((x : List ℕ) → length (f x) ≡ n) → (xs : List (List ℕ)) (c r : ℕ) → c < length xs → r < n →
    get_or (flat_map f xs) (c * n + r) 0 ≡ get_or (f (get_or xs c [])) r 0
flat_at f n h [] c r l k = absurd (omega arith)
flat_at f n h (x ∷ xs) zero r l k =
    let e : r ≡ zero * n + r = omega arith in
    subst (λ (i : ℕ). get_or (f x ++ flat_map f xs) i 0 ≡ get_or (f x) r 0) e (get_or-append (f x) (flat_map f xs) 0 r (omega (arith, k, h x)))
flat_at f n h (x ∷ xs) (suc c) r l k =
    let e : length (f x) + (c * n + r) ≡ suc c * n + r = omega (arith, h x) in
    subst (λ (i : ℕ). get_or (f x ++ flat_map f xs) i 0 ≡ get_or (f (get_or xs c [])) r 0) e
    (get_or-append-add (f x) (flat_map f xs) (c * n + r) 0 ∙ flat_at f n h xs c r (omega arith) k)

pub numbers_more : (f : ℕ → ℕ) (r v : ℕ) (old now new : List ℕ) → now ≡ old ++ map f (below r) → new ≡ now ++ v ∷ [] → v ≡ f r → new ≡ old ++ map f (below (r + 1))
numbers_more f r v old now new s t e =
    let m : map f (below (r + 1)) ≡ map f (below r) ++ f r ∷ [] = rw add-one (map-append f (below r) (r ∷ [])) in
    rw m (t ∙ (ap (λ (x : List ℕ). x ++ v ∷ []) s ∙ (append_assoc old (map f (below r)) (v ∷ []) ∙ ap (λ (x : ℕ). old ++ (map f (below r) ++ x ∷ [])) e)))

pub flat_more : (f : List ℕ → List ℕ) (xs : List (List ℕ)) (i : ℕ) (x : List ℕ) (now new : List ℕ) → i < length xs → x ≡ get_or xs i x →
    now ≡ flat_map f (take i xs) → new ≡ now ++ f x → new ≡ flat_map f (take (i + 1) xs)
flat_more f xs i x now new l s t e =
    let m : take (i + 1) xs ≡ take i xs ++ x ∷ [] = rw add-one (take-suc xs i x l ∙ ap (λ (y : List ℕ). take i xs ++ y ∷ []) (sym s)) in
    rw m (e ∙ (ap (λ (y : List ℕ). y ++ f x) t ∙ sym (flat_map-append f (take i xs) (x ∷ []) ∙ ap (λ (y : List ℕ). flat_map f (take i xs) ++ y) (append-nil (f x)))))
