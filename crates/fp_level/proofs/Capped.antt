-- The first choices don't depend on how large a large number of them is.
use Rattle.std.proofs.Common.{◌≡◌, ◌⊎◌, ◌≤◌, ◌-◌, ◌^◌, nat_lt, ℕ, zero, suc, Bool, true, false, List, [], ◌∷◌, ◌++◌, map, take, length, refl, arith, inl, inr, sym, ◌∙◌, ap, length-append, if◌then◌else◌}
use Rattle.std.proofs.Math.Nat.{pow-le-pow_right}
use Rattle.std.proofs.lemmas.Bool.{cases_lt, ltb-false}
use Rattle.std.proofs.lemmas.List.{length-map}
use Rattle.fp_order.specs.Grid.{prefixed, choices}
use Rattle.fp_order.proofs.CutLists.{take_full, prefixed_cut}
use Rattle.fp_level.specs.Counts.{set_count}

prefixed_none : (n : ℕ) → prefixed n [] ≡ []
prefixed_none zero = refl
prefixed_none (suc n) = ap (λ (t : List (List ℕ)). t ++ []) (prefixed_none n)

prefixed_long : (n : ℕ) (x : List ℕ) (xs : List (List ℕ)) → n ≤ length (prefixed n (x ∷ xs))
prefixed_long zero x xs = omega arith
prefixed_long (suc n) x xs =
    omega (arith, prefixed_long n x xs, length-append (prefixed n (x ∷ xs)) (map (λ (t : List ℕ). n ∷ t) (x ∷ xs)), length-map (x ∷ xs) (λ (t : List ℕ). n ∷ t))

prefixed_many : (k n : ℕ) (xs : List (List ℕ)) → k ≤ n → take k (prefixed n xs) ≡ take k (prefixed k xs)
prefixed_many k n [] l = ap (take k) (prefixed_none n ∙ sym (prefixed_none k))
prefixed_many k zero (x ∷ xs) l = let e : k ≡ 0 = omega arith in rw e refl
prefixed_many k (suc n) (x ∷ xs) l = elim (cases_lt n k) [
  | inl m ↦ let e : k ≡ suc n = omega arith in rw e refl
  | inr m ↦ take_full k (prefixed n (x ∷ xs)) (map (λ (t : List ℕ). n ∷ t) (x ∷ xs)) (omega (arith, m, prefixed_long n x xs)) ∙ prefixed_many k n (x ∷ xs) m
]

-- two numbers are equal, or both at least `k`
abbrev pub SameUpTo : ℕ → ℕ → ℕ → Type 0
SameUpTo k a b = (a ≡ b) ⊎ ((k ≤ a) × (k ≤ b))

prefixed_same : (k a b : ℕ) (xs : List (List ℕ)) → SameUpTo k a b → take k (prefixed a xs) ≡ take k (prefixed b xs)
prefixed_same k a b xs (inl s) = ap (λ (n : ℕ). take k (prefixed n xs)) s
prefixed_same k a b xs (inr (l, m)) = prefixed_many k a xs l ∙ sym (prefixed_many k b xs m)

pub choices_same : (k : ℕ) (f g : ℕ → ℕ) → ((n : ℕ) → SameUpTo k (f n) (g n)) → (ns : List ℕ) → take k (choices (map f ns)) ≡ take k (choices (map g ns))
choices_same k f g same [] = refl
choices_same k f g same (n ∷ ns) =
    sym (prefixed_cut k (f n) (choices (map f ns)))
    ∙ (ap (λ (t : List (List ℕ)). take k (prefixed (f n) t)) (choices_same k f g same ns)
    ∙ (prefixed_cut k (f n) (choices (map g ns)) ∙ prefixed_same k (f n) (g n) (choices (map g ns)) (same n)))

large : (measures : ℕ) → nat_lt measures 12 ≡ false → 4096 ≤ 2 ^ measures
large measures s = pow-le-pow_right {n = 2} (omega arith) {i = 12} {j = measures} (ltb-false measures 12 s)

pub counts_same : (measures : ℕ) → SameUpTo 2049 (set_count measures) (2 ^ measures - 1)
counts_same measures = by_size (nat_lt measures 12) refl where
  by_size : (b : Bool) → nat_lt measures 12 ≡ b → SameUpTo 2049 (if b then 2 ^ measures - 1 else 4095) (2 ^ measures - 1)
  by_size true s = inl refl
  by_size false s = inr (omega arith, omega (arith, large measures s))
