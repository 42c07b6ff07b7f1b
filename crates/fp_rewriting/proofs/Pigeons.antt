-- The name of the variable with which an abstraction is opened isn't taken.
use Rattle.std.proofs.Common.{◌≡◌, ◌∙◌, ◌≤◌, ◌<◌, ◌+◌, ◌^◌, ℕ, zero, suc, Bool, true, false, if◌then◌else◌, List, [], ◌∷◌, ◌++◌, length, refl, sym, arith}
use Rattle.std.specs.Str.{bytes_eq}
use Rattle.std.proofs.lemmas.Slice.Eq.{bytes_eq-Decides}
use Rattle.std.specs.Prelude.{codes}
use Rattle.fp_term.proofs.NumberedNames.{numbered_apart}
use Rattle.fp_term.specs.Terms.{Tm, bound, free, constant, app, abs, size_of}
use Rattle.fp_term.specs.Variables.{free_names, is_among}
use Rattle.fp_term.proofs.Search.{among_append}
use Rattle.fp_rewriting.specs.Fresh.{opening_name, is_taken, first_untaken, fresh_name}

by_cases : (b : Bool) (P : Type 0) → (b ≡ true → P) → (b ≡ false → P) → P
by_cases true P f g = f refl
by_cases false P f g = g refl

-- the list without the first such name
abbrev dropped : List ℕ → List (List ℕ) → List (List ℕ)
dropped a [] = []
dropped a (x ∷ xs) = if bytes_eq x a then xs else x ∷ dropped a xs

shorter : (a : List ℕ) (xs : List (List ℕ)) → is_among xs a ≡ true → length xs ≡ length (dropped a xs) + 1
shorter a [] e = cc
shorter a (x ∷ xs) e =
    by_cases (bytes_eq x a) _ (λ i. rw i (omega arith)) (λ i. let f = shorter a xs (rw i at e) in rw i (omega (arith, f)))

others : (a b : List ℕ) (xs : List (List ℕ)) → (a ≡ b → ⊥) → is_among xs b ≡ true → is_among (dropped a xs) b ≡ true
others a b [] differ e = e
others a b (x ∷ xs) differ e =
    by_cases (bytes_eq x a) _
    (λ i. by_cases (bytes_eq x b) _ (λ j. absurd (differ (sym ((bytes_eq-Decides x a).0 i) ∙ (bytes_eq-Decides x b).0 j))) (λ j. rw i (rw j at e)))
    (λ i. by_cases (bytes_eq x b) _ (λ j. rw (i, j) refl) (λ j. let f = others a b xs differ (rw j at e) in rw (i, j) f))

-- so many opening_name names from that number on are among the names
abbrev AllIn : ℕ → ℕ → List (List ℕ) → Type 0
AllIn zero n xs = Unit {0}
AllIn (suc m) n xs = (is_among xs (opening_name n) ≡ true) × AllIn m (n + 1) xs

apart : (k n : ℕ) → k < n → n < 2 ^ 32 → opening_name k ≡ opening_name n → ⊥
apart k n h b e = let f : k ≡ n = numbered_apart (codes "w") k n (omega arith) b e in omega (arith, f)

kept : (m n k : ℕ) (xs : List (List ℕ)) → k < n → n + m ≤ 2 ^ 32 → AllIn m n xs → AllIn m n (dropped (opening_name k) xs)
kept zero n k xs h b a = tt
kept (suc m) n k xs h b a = (others (opening_name k) (opening_name n) xs (apart k n h (omega arith)) a.0, kept m (n + 1) k xs (omega arith) (omega arith) a.1)

pigeons : (m n : ℕ) (xs : List (List ℕ)) → n + m ≤ 2 ^ 32 → AllIn m n xs → m ≤ length xs
pigeons zero n xs b a = omega arith
pigeons (suc m) n xs b a =
    let p = pigeons m (n + 1) (dropped (opening_name n) xs) (omega arith) (kept m (n + 1) n xs (omega arith) (omega arith) a.1) in
    let l = shorter (opening_name n) xs a.0 in
    omega (arith, p, l)

append_length : (xs ys : List (List ℕ)) → length (xs ++ ys) ≡ length xs + length ys
append_length [] ys = omega arith
append_length (x ∷ xs) ys = let e = append_length xs ys in omega (arith, e)

few : (t : Tm) → length (free_names t) ≤ size_of t
few (bound n) = omega arith
few (free a s) = omega arith
few (constant a s) = omega arith
few (app f x) = let a = few f in let b = few x in let e = append_length (free_names f) (free_names x) in omega (arith, a, b, e)
few (abs s x) = let a = few x in omega (arith, a)

all_taken : (tries n : ℕ) (names : List (List ℕ)) (t : Tm) → is_taken names t (first_untaken tries names t n) ≡ true → AllIn (suc tries) n (free_names t ++ names)
unfolding first_untaken
all_taken zero n names t e = (among_append (free_names t) names (opening_name n) ∙ e, tt)
all_taken (suc tries) n names t e =
    by_cases (is_taken names t (opening_name n)) _
    (λ i. (among_append (free_names t) names (opening_name n) ∙ i, all_taken tries (n + 1) names t (rw i at e)))
    (λ i. let f = rw i at e in cc)

pub fresh_untaken : (names : List (List ℕ)) (t : Tm) → size_of t + length names + 2 ≤ 2 ^ 32 → is_taken names t (fresh_name names t) ≡ false
fresh_untaken names t b =
    by_cases (is_taken names t (fresh_name names t)) _
    (λ i.
    let n = size_of t + length names in
    let p = pigeons (suc n) 1 (free_names t ++ names) (omega arith) (all_taken n 1 names t i) in
    let e = append_length (free_names t) names in
    let f = few t in
    absurd (omega (arith, p, e, f)))
    (λ i. i)
