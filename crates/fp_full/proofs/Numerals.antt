-- A numeral is the text of its number, and the text of a number below 2^32 is a numeral.
use Rattle.std.proofs.Common.{◌≡◌, ℕ, ◌<◌, ◌^◌, List, [], ◌∷◌, length, get_or, true, false, not, ◌&&◌, ◌==◌, nat_lt, refl, rules, arith, inl, inr}
use Rattle.std.specs.Str.{all_ascii_digits}
use Rattle.std.specs.Fmt.{decimal}
use Rattle.std.proofs.lemmas.Bool.{and_parts, and_from, cases_lt}
use Rattle.std.proofs.lemmas.Bool.Decides.{nat_tests}
use Rattle.std.proofs.lemmas.Str.Parse.{IsNumeralModel, numerals_by_fold}
use Rattle.std.proofs.lemmas.Fmt.{decimal-digits_value, digits_decimal, digits_value-decimal, decimal_digit, decimal_nonempty, first_decimal}
use Rattle.fp_full.specs.Machine.{read_on, is_plain, is_numeral}

-- digits and their number, as std has them
own : IsNumeralModel (λ ds. all_ascii_digits ds ≡ true) (read_on 0)
own = numerals_by_fold _ (search rules) read_on (search rules)

-- a numeral has a digit
plain_nonempty : (w : List ℕ) → is_plain w ≡ true → 0 < length w
plain_nonempty [] e = absurd (let bad : false ≡ true = e in cc)
plain_nonempty (c ∷ cs) e = grind arith

-- only the number 0 begins with a zero
plain_zero : (w : List ℕ) → is_plain w ≡ true → get_or w 0 0 ≡ 48 → length w ≡ 1
plain_zero [] e f = absurd (let bad : false ≡ true = e in cc)
plain_zero (c ∷ []) e f = refl
plain_zero (c ∷ d ∷ cs) e f = absurd (let h : not (c == 48) ≡ true = e in let g : c ≡ 48 = f in grind (arith, nat_tests))

-- digits that begin with no zero
plain_from : (w : List ℕ) → 0 < length w → 48 < get_or w 0 0 → is_plain w ≡ true
plain_from [] e f = absurd (let bad : 0 < 0 = e in omega arith)
plain_from (c ∷ []) e f = refl
plain_from (c ∷ d ∷ cs) e f = let g : 48 < c = f in let h : not (c == 48) ≡ true = grind (arith, nat_tests) in h

-- what a numeral is
numeral_parts : (w : List ℕ) → is_numeral w ≡ true → (is_plain w ≡ true) × (all_ascii_digits w ≡ true) × (nat_lt (read_on 0 w) (2 ^ 32) ≡ true)
numeral_parts w e =
    let all = and_parts (is_plain w && all_ascii_digits w) (nat_lt (read_on 0 w) (2 ^ 32)) e in
    let first = and_parts (is_plain w) (all_ascii_digits w) all.0 in
    (first.0, first.1, all.1)

-- a numeral's number is small
pub numeral_small : (w : List ℕ) → is_numeral w ≡ true → read_on 0 w < 2 ^ 32
numeral_small w e =
    below (read_on 0 w) (2 ^ 32) (numeral_parts w e).2
  where
    below : (n m : ℕ) → nat_lt n m ≡ true → n < m
    below n m h = grind (arith, nat_tests)

-- a numeral is the text of its number
pub numeral_decimal : (w : List ℕ) → is_numeral w ≡ true → decimal (read_on 0 w) ≡ w
numeral_decimal w e =
    let parts = numeral_parts w e in
    decimal-digits_value own w parts.1 (plain_nonempty w parts.0) (plain_zero w parts.0) (widened (read_on 0 w) (numeral_small w e))
  where
    widened : (n : ℕ) → n < 2 ^ 32 → n < 2 ^ 64
    widened n h = omega arith

-- the text of a number has no leading zero
plain_decimal : (n : ℕ) → n < 2 ^ 64 → is_plain (decimal n) ≡ true
plain_decimal n h = elim (cases_lt 0 n) [
  | inl l ↦ plain_from (decimal n) (decimal_nonempty n h) (first_decimal n l h)
  | inr g ↦ let low : n < 10 = omega arith in rw (decimal_digit n low) refl
]

-- the text of a small number is a numeral of that number
pub decimal_numeral : (n : ℕ) → n < 2 ^ 32 → (is_numeral (decimal n) ≡ true) × (read_on 0 (decimal n) ≡ n)
decimal_numeral n h =
    let wide : n < 2 ^ 64 = omega arith in
    let same = digits_value-decimal own n wide in
    let small : nat_lt (read_on 0 (decimal n)) (2 ^ 32) ≡ true = below (read_on 0 (decimal n)) (2 ^ 32) (rw same h) in
    (and_from (is_plain (decimal n) && all_ascii_digits (decimal n)) (nat_lt (read_on 0 (decimal n)) (2 ^ 32)) (and_from (is_plain (decimal n)) (all_ascii_digits (decimal n)) (plain_decimal n wide) (digits_decimal own n wide)) small, same)
  where
    below : (n m : ℕ) → n < m → nat_lt n m ≡ true
    below n m h = grind (arith, nat_tests)
