-- The name with which an abstraction is opened is the first that isn't taken.
use Rattle.std.proofs.Common.{◌≡◌, ◌≤◌, ◌<◌, ◌+◌, ◌-◌, ◌^◌, ◌∙◌, ℕ, zero, suc, Bool, true, false, List, length, refl, arith}
use Rattle.fp_term.specs.Terms.{Tm, size_of}
use Rattle.fp_rewriting.specs.Fresh.{opening_name, is_taken, first_untaken, fresh_name, IsFirstUntaken}
use Rattle.fp_rewriting.proofs.Pigeons.{fresh_untaken}

by_cases : (b : Bool) (P : Type 0) → (b ≡ true → P) → (b ≡ false → P) → P
by_cases true P f g = f refl
by_cases false P f g = g refl

-- the name is opening_name from there on, and those in between are taken
record FirstFrom (from : ℕ) (names : List (List ℕ)) (t : Tm) (w : List ℕ) : Type 0 where
  number : ℕ
  is : w ≡ opening_name number
  not_before : from ≤ number
  earlier : (k : ℕ) → from + k < number → is_taken names t (opening_name (from + k)) ≡ true

one_earlier : (P : ℕ → Type 0) (from k number : ℕ) → P from → ((j : ℕ) → from + 1 + j < number → P (from + 1 + j)) → from + k < number → P (from + k)
one_earlier P from zero number p f h = let e : from + 0 ≡ from = omega arith in rw e p
one_earlier P from (suc k) number p f h = let e : from + suc k ≡ from + 1 + k = omega arith in rw e (f k (omega arith))

first_from : (tries from : ℕ) (names : List (List ℕ)) (t : Tm) → FirstFrom from names t (first_untaken tries names t from)
unfolding first_untaken
first_from zero from names t = record { number = from; is = refl; not_before = omega arith; earlier = λ k h. absurd (omega arith) }
first_from (suc tries) from names t =
    by_cases (is_taken names t (opening_name from)) _
    (λ i. let rest : FirstFrom (from + 1) names t (first_untaken tries names t (from + 1)) = first_from tries (from + 1) names t in
    let low = rest.not_before in
    record { number = rest.number; is = rw i rest.is; not_before = omega (arith, low); earlier = λ k h. one_earlier (λ n. is_taken names t (opening_name n) ≡ true) from k rest.number i rest.earlier h })
    (λ i. record { number = from; is = rw i refl; not_before = omega arith; earlier = λ k h. absurd (omega arith) })

pub first_of_all : (names : List (List ℕ)) (t : Tm) (w : List ℕ) → w ≡ fresh_name names t → size_of t + length names + 2 ≤ 2 ^ 32 → IsFirstUntaken names t w
first_of_all names t w e b =
    let f : FirstFrom 1 names t (fresh_name names t) = first_from (size_of t + length names) 1 names t in
    record {
      number = f.number;
      is = e ∙ f.is;
      numbered_from_one = f.not_before;
      untaken = rw e (fresh_untaken names t b);
      earlier = λ n low high. let same : 1 + (n - 1) ≡ n = omega arith in rw same at (f.earlier (n - 1) (omega arith));
    }
