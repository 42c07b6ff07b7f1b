-- The names of binders are used by no variable and no constant, and none before them is left out.
use Rattle.std.proofs.Common.{◌≡◌, ◌∙◌, ℕ, zero, suc, ◌+◌, ◌/◌, ◌%◌, ◌^◌, ◌<◌, ◌≤◌, ◌==◌, Bool, true, false, cond, ◌||◌, List, [], ◌∷◌, length, refl, sym, ap, inl, inr, arith}
use Rattle.std.specs.Str.{bytes_eq}
use Rattle.std.specs.Fmt.{decimal}
use Rattle.std.proofs.lemmas.Bool.{cases_lt}
use Rattle.std.proofs.lemmas.Bool.Decides.{nat_tests}
use Rattle.std.proofs.lemmas.Slice.Eq.{bytes_eq-Decides}
use Rattle.std.proofs.lemmas.Fmt.{decimal_nonempty, decimal_injective}
use Rattle.fp_term.specs.Variables.{is_among}
use Rattle.fp_print.specs.Names.{candidate, next_place, place_of, binder_name}

-- no two candidates are equal
same_round : (a b : Bool) (m n : ℕ) → (m == 0) ≡ a → (n == 0) ≡ b → m < 2 ^ 64 → n < 2 ^ 64 → cond a [] (decimal m) ≡ cond b [] (decimal n) → m ≡ n
same_round true true m n p q h k e = grind (arith, nat_tests)
same_round true false m n p q h k e = absurd (let l = decimal_nonempty n k in let g : 0 ≡ length (decimal n) = ap length e in omega arith)
same_round false true m n p q h k e = absurd (let l = decimal_nonempty m h in let g : length (decimal m) ≡ 0 = ap length e in omega arith)
same_round false false m n p q h k e = decimal_injective m n h k e

same_place : (j k : ℕ) → j < 2 ^ 64 → k < 2 ^ 64 → candidate j ≡ candidate k → j ≡ k
same_place j k h l e =
    let letters : 97 + j % 26 ≡ 97 + k % 26 = cc in
    let numbers : cond (j / 26 == 0) [] (decimal (j / 26)) ≡ cond (k / 26 == 0) [] (decimal (k / 26)) = cc in
    let rounds = same_round (j / 26 == 0) (k / 26 == 0) (j / 26) (k / 26) refl refl (omega arith) (omega arith) numbers in
    omega arith

-- the names without the first that is equal to that one
dropped : List ℕ → List (List ℕ) → List (List ℕ)
dropped name [] = []
dropped name (a ∷ names) = cond (bytes_eq a name) names (a ∷ dropped name names)

shorter_by : (a : List ℕ) (names rest : List (List ℕ)) (b c : Bool) → (b || c) ≡ true → (c ≡ true → length names ≡ length rest + 1) →
    length (a ∷ names) ≡ length (cond b names (a ∷ rest)) + 1
shorter_by a names rest true c e next = omega arith
shorter_by a names rest false c e next = let h = next e in omega arith

shorter : (name : List ℕ) (names : List (List ℕ)) → is_among names name ≡ true → length names ≡ length (dropped name names) + 1
unfolding dropped
shorter name [] e = absurd (let bad : false ≡ true = e in cc)
shorter name (a ∷ names) e = shorter_by a names (dropped name names) (bytes_eq a name) (is_among names name) e (shorter name names)

kept_by : (a name other : List ℕ) (names rest : List (List ℕ)) (b c : Bool) → bytes_eq a name ≡ b → bytes_eq a other ≡ c → (other ≡ name → ⊥) →
    (c || is_among names other) ≡ true → (is_among names other ≡ true → is_among rest other ≡ true) → is_among (cond b names (a ∷ rest)) other ≡ true
kept_by a name other names rest true true p q differs e next =
    absurd (differs (sym ((bytes_eq-Decides a other).0 q) ∙ (bytes_eq-Decides a name).0 p))
kept_by a name other names rest true false p q differs e next = e
kept_by a name other names rest false true p q differs e next = rw q refl
kept_by a name other names rest false false p q differs e next = rw q (next e)

kept : (name other : List ℕ) (names : List (List ℕ)) → (other ≡ name → ⊥) → is_among names other ≡ true → is_among (dropped name names) other ≡ true
unfolding dropped
kept name other [] differs e = e
kept name other (a ∷ names) differs e =
    kept_by a name other names (dropped name names) (bytes_eq a name) (bytes_eq a other) refl refl differs e (kept name other names differs)

later_by : (b : Bool) (k p : ℕ) → k + 1 ≤ p → k ≤ cond b p k
later_by true k p h = omega arith
later_by false k p h = omega arith

not_before : (used steps : List (List ℕ)) (k : ℕ) → k ≤ next_place used steps k
not_before used [] k = omega arith
not_before used (step ∷ steps) k = later_by (is_among used (candidate k)) k (next_place used steps (k + 1)) (not_before used steps (k + 1))

-- every used name that is a candidate from there on is one of those
Covers : List (List ℕ) → List (List ℕ) → ℕ → Type 0
Covers used names k = (j : ℕ) → k ≤ j → j < 2 ^ 64 → is_among used (candidate j) ≡ true → is_among names (candidate j) ≡ true

covers_next : (used names : List (List ℕ)) (k : ℕ) → k < 2 ^ 64 → Covers used names k → Covers used (dropped (candidate k) names) (k + 1)
unfolding Covers
covers_next used names k small c j h l e =
    kept (candidate k) (candidate j) names (λ (same : candidate j ≡ candidate k). let i = same_place j k l small same in omega arith) (c j (omega arith) l e)

unused_by : (used : List (List ℕ)) (k p : ℕ) (b : Bool) → is_among used (candidate k) ≡ b →
    (is_among used (candidate k) ≡ true → p < 2 ^ 64 → is_among used (candidate p) ≡ false) → cond b p k < 2 ^ 64 → is_among used (candidate (cond b p k)) ≡ false
unused_by used k p true e next small = next e small
unused_by used k p false e next small = e

not_used : (used : List (List ℕ)) (k : ℕ) (b : Bool) → is_among used (candidate k) ≡ b → (is_among used (candidate k) ≡ true → ⊥) → is_among used (candidate k) ≡ false
not_used used k true e h = absurd (h e)
not_used used k false e h = e

next_unused : (used steps names : List (List ℕ)) (k : ℕ) → length names ≤ length steps → Covers used names k →
    next_place used steps k < 2 ^ 64 → is_among used (candidate (next_place used steps k)) ≡ false
unfolding Covers
next_unused used [] [] k l c small = not_used used k (is_among used (candidate k)) refl (λ (e : is_among used (candidate k) ≡ true).
    let bad : false ≡ true = c k (omega arith) small e in cc)
next_unused used [] (name ∷ names) k l c small = absurd (omega arith)
next_unused used (step ∷ steps) names k l c small =
    unused_by used k (next_place used steps (k + 1)) (is_among used (candidate k)) refl
    (λ (e : is_among used (candidate k) ≡ true) (h : next_place used steps (k + 1) < 2 ^ 64).
    let after = not_before used steps (k + 1) in
    let low : k < 2 ^ 64 = omega arith in
    let less = shorter (candidate k) names (c k (omega arith) low e) in
    next_unused used steps (dropped (candidate k) names) (k + 1) (omega arith) (covers_next used names k low c) h)
    small

-- a binder's name isn't used
pub binder_name_unused : (used : List (List ℕ)) (d : ℕ) → place_of used d < 2 ^ 64 → is_among used (binder_name used d) ≡ false
unfolding Covers
binder_name_unused used zero h = next_unused used used used 0 (omega arith) (λ j i l e. e) h
binder_name_unused used (suc d) h = next_unused used used used (place_of used d + 1) (omega arith) (λ j i l e. e) h

-- a binder inside another has a later name
pub binder_names_differ : (used : List (List ℕ)) (d : ℕ) → place_of used d < place_of used (suc d)
binder_names_differ used d = let h = not_before used used (place_of used d + 1) in omega arith

skipped_by : (used : List (List ℕ)) (k p j : ℕ) (b : Bool) → is_among used (candidate k) ≡ b → k ≤ j → j < cond b p k →
    (k + 1 ≤ j → j < p → is_among used (candidate j) ≡ true) → is_among used (candidate j) ≡ true
skipped_by used k p j true e h l next = elim (cases_lt k j) [
  | inl i ↦ next (omega arith) l
  | inr i ↦ let same : k ≡ j = omega arith in rw (← same) e
]
skipped_by used k p j false e h l next = absurd (omega arith)

skipped : (used steps : List (List ℕ)) (k j : ℕ) → k ≤ j → j < next_place used steps k → is_among used (candidate j) ≡ true
skipped used [] k j h l = absurd (omega arith)
skipped used (step ∷ steps) k j h l =
    skipped_by used k (next_place used steps (k + 1)) j (is_among used (candidate k)) refl h l (λ (i : k + 1 ≤ j) (m : j < next_place used steps (k + 1)). skipped used steps (k + 1) j i m)

-- the candidates before the outermost binder's name are used, and those between the names of a binder and the next
pub used_before : (used : List (List ℕ)) (j : ℕ) → j < place_of used 0 → is_among used (candidate j) ≡ true
used_before used j h = skipped used used 0 j (omega arith) h

pub used_between : (used : List (List ℕ)) (d j : ℕ) → place_of used d < j → j < place_of used (suc d) → is_among used (candidate j) ≡ true
used_between used d j h l = skipped used used (place_of used d + 1) j (omega arith) l
