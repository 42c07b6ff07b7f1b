-- Names with a number at the end.
use Rattle.std.proofs.Common.{◌≡◌, ◌∙◌, ℕ, ◌+◌, ◌<◌, ◌≤◌, ◌^◌, ◌%◌, true, not, ◌==◌, nat_lt, List, [], ◌∷◌, ◌++◌, length, refl, arith, length-append}
use Rattle.std.specs.List.{list_all}
use Rattle.std.specs.Int.{is_in_range}
use Rattle.std.specs.Fmt.{decimal}
use Rattle.std.proofs.lemmas.Bool.{and_parts, and_from}
use Rattle.std.proofs.lemmas.Bool.Decides.{nat_tests}
use Rattle.std.proofs.lemmas.List.{append_cancel_left}
use Rattle.std.proofs.lemmas.List.Folds.{list_all-append}
use Rattle.std.proofs.lemmas.Fmt.{decimal_by_steps, decimal_injective, length-decimal-le}
use Rattle.fp_term.specs.Names.{is_name, is_start_byte, is_part_byte, numbered}

-- different numbers give different names
pub numbered_apart : (stem : List ℕ) (m n : ℕ) → m < 2 ^ 32 → n < 2 ^ 32 → numbered stem m ≡ numbered stem n → m ≡ n
numbered_apart stem m n h k e = decimal_injective m n (omega arith) (omega arith) (append_cancel_left stem (decimal m) (decimal n) e)

digit_is_part : (n : ℕ) → n < 10 → is_part_byte (48 + n) ≡ true
digit_is_part n l = let is : is_in_range 48 57 (48 + n) ≡ true = grind (arith, nat_tests) in rw is refl

digits_are_parts : (n : ℕ) → n < 2 ^ 64 → list_all is_part_byte (decimal n) ≡ true
digits_are_parts =
    decimal_by_steps (λ m ds. list_all is_part_byte ds ≡ true) (λ m l. rw (digit_is_part m l) refl)
    (λ m ds l h. rw (list_all-append is_part_byte ds ((48 + m % 10) ∷ []), h, digit_is_part (m % 10) (omega arith)) refl)

-- what is numbered has the form of a name
pub numbered_is_name : (stem : List ℕ) (n : ℕ) → is_name stem ≡ true → length stem ≤ 150 → n < 2 ^ 32 → is_name (numbered stem n) ≡ true
unfolding is_name
numbered_is_name [] n e short h = cc
numbered_is_name (c ∷ cs) n e short h =
    let most : length (decimal n) ≤ 10 = length-decimal-le 10 n (omega arith) (omega arith) (omega arith) in
    let fits : nat_lt (length ((c ∷ cs) ++ decimal n)) 161 ≡ true = grind (arith, nat_tests, length-append cs (decimal n)) in
    let some : not (length ((c ∷ cs) ++ decimal n) == 0) ≡ true = grind (arith, nat_tests) in
    let whole = and_parts _ (list_all is_part_byte (c ∷ cs)) e in
    let begins = (and_parts _ (is_start_byte c) whole.0).1 in
    let parts : list_all is_part_byte ((c ∷ cs) ++ decimal n) ≡ true =
    list_all-append is_part_byte (c ∷ cs) (decimal n) ∙ and_from (list_all is_part_byte (c ∷ cs)) (list_all is_part_byte (decimal n)) whole.1 (digits_are_parts n (omega arith)) in
    rw (some, fits, begins, parts) refl
