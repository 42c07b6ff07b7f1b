-- The names of helpers are none of the known ones, and different.
use Rattle.std.proofs.Common.{◌≡◌, ◌∙◌, ◌≤◌, ◌<◌, ℕ, zero, suc, ◌+◌, ◌^◌, Bool, true, false, cond, List, [], ◌∷◌, length, arith, refl, sym}
use Rattle.std.specs.Prelude.{codes}
use Rattle.std.specs.Str.{bytes_eq}
use Rattle.std.proofs.lemmas.Slice.Eq.{bytes_eq-Decides}
use Rattle.fp_term.proofs.NumberedNames.{numbered_apart}
use Rattle.fp_term.specs.Variables.{is_among}
use Rattle.fp_spec.specs.Helpers.{candidate, unused_from, helper_number, helper}

by_cases : (b : Bool) (P : Type 0) → (b ≡ true → P) → (b ≡ false → P) → P
by_cases true P f g = f refl
by_cases false P f g = g refl

-- the list without the first such name
abbrev dropped : List ℕ → List (List ℕ) → List (List ℕ)
dropped a [] = []
dropped a (x ∷ xs) = cond (bytes_eq x a) xs (x ∷ dropped a xs)

shorter : (a : List ℕ) (xs : List (List ℕ)) → is_among xs a ≡ true → length xs ≡ length (dropped a xs) + 1
shorter a [] e = cc
shorter a (x ∷ xs) e =
    by_cases (bytes_eq x a) _ (λ i. rw i (omega arith)) (λ i. let f = shorter a xs (rw i at e) in rw i (omega (arith, f)))

others : (a b : List ℕ) (xs : List (List ℕ)) → (a ≡ b → ⊥) → is_among xs b ≡ true → is_among (dropped a xs) b ≡ true
others a b [] differ e = e
others a b (x ∷ xs) differ e =
    by_cases (bytes_eq x a) _
    (λ i. by_cases (bytes_eq x b) _ (λ j. absurd (differ (sym ((bytes_eq-Decides x a).0 i) ∙ (bytes_eq-Decides x b).0 j))) (λ j. rw i (rw j at e)))
    (λ i. by_cases (bytes_eq x b) _ (λ j. rw (i, j) refl) (λ j. let f = others a b xs differ (rw j at e) in rw (i, j) f))

-- so many candidates from that number on are among the names
abbrev AllIn : ℕ → ℕ → List (List ℕ) → Type 0
AllIn zero n xs = Unit {0}
AllIn (suc m) n xs = (is_among xs (candidate n) ≡ true) × AllIn m (n + 1) xs

apart : (k n : ℕ) → k < n → n < 2 ^ 32 → candidate k ≡ candidate n → ⊥
apart k n h b e = let f : k ≡ n = numbered_apart (codes "a") k n (omega arith) b e in omega (arith, f)

all_others : (m n k : ℕ) (xs : List (List ℕ)) → k < n → n + m ≤ 2 ^ 32 → AllIn m n xs → AllIn m n (dropped (candidate k) xs)
all_others zero n k xs h b e = tt
all_others (suc m) n k xs h b e =
    (others (candidate k) (candidate n) xs (apart k n h (omega arith)) e.0, all_others m (n + 1) k xs (omega arith) (omega arith) e.1)

few : (m n : ℕ) (xs : List (List ℕ)) → n + m ≤ 2 ^ 32 → AllIn m n xs → m ≤ length xs
few zero n xs b e = omega arith
few (suc m) n xs b e =
    let f = shorter (candidate n) xs e.0 in
    let g = few m (n + 1) (dropped (candidate n) xs) (omega arith) (all_others m (n + 1) n xs (omega arith) (omega arith) e.1) in
    omega (arith, f, g)

-- where the search ends at a known name, it went all the way, by known ones
all_known : (more n : ℕ) (known : List (List ℕ)) → is_among known (candidate (unused_from known more n)) ≡ true → AllIn (suc more) n known × (unused_from known more n ≡ n + more)
all_known zero n known e = ((e, tt), omega arith)
all_known (suc more) n known e =
    by_cases (is_among known (candidate n)) _
    (λ i. let r = all_known more (n + 1) known (rw i at e) in ((i, r.0), rw i (omega (arith, r.1))))
    (λ i. let f : is_among known (candidate n) ≡ true = rw i at e in absurd (cc))

pub unused_is_new : (known : List (List ℕ)) (n : ℕ) → unused_from known (length known) n < 2 ^ 32 → is_among known (candidate (unused_from known (length known) n)) ≡ false
unused_is_new known n low =
    by_cases (is_among known (candidate (unused_from known (length known) n))) _
    (λ i. let r = all_known (length known) n known i in
    let h = few (suc (length known)) n known (omega (arith, r.1, low)) r.0 in absurd (omega (arith, h)))
    (λ i. i)

pub unused_beyond : (known : List (List ℕ)) (more n : ℕ) → n ≤ unused_from known more n
unused_beyond known zero n = omega arith
unused_beyond known (suc more) n =
    by_cases (is_among known (candidate n)) _
    (λ i. let h = unused_beyond known more (n + 1) in rw i (omega (arith, h)))
    (λ i. rw i (omega arith))

-- later helpers have greater numbers
pub next_greater : (known : List (List ℕ)) (n : ℕ) → helper_number known n < helper_number known (suc n)
next_greater known n = let h = unused_beyond known (length known) (helper_number known n + 1) in omega (arith, h)

pub greater : (known : List (List ℕ)) (m k : ℕ) → helper_number known m < helper_number known (m + suc k)
greater known m zero = let e : m + 1 ≡ suc m = omega arith in rw e (next_greater known m)
greater known m (suc k) =
    let h = greater known m k in
    let g = next_greater known (m + suc k) in
    let e : m + suc (suc k) ≡ suc (m + suc k) = omega arith in
    rw e (omega (arith, h, g))

-- a helper is none of the known names
pub helper_is_new : (known : List (List ℕ)) (n : ℕ) → helper_number known n < 2 ^ 32 → is_among known (helper known n) ≡ false
helper_is_new known zero low = unused_is_new known 1 low
helper_is_new known (suc n) low = unused_is_new known (helper_number known n + 1) low

-- and two helpers are different
pub helpers_differ : (known : List (List ℕ)) (m k : ℕ) → helper_number known (m + suc k) < 2 ^ 32 → helper known m ≡ helper known (m + suc k) → ⊥
helpers_differ known m k low e = apart (helper_number known m) (helper_number known (m + suc k)) (greater known m k) low e
