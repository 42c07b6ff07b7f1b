-- Two lists put together, an element at a time.
use Rattle.std.proofs.Common.{◌≡◌, ℕ, zero, suc, ◌+◌, ◌<◌, List, [], ◌∷◌, length, set, take, sym, refl, ap, ◌∙◌, arith, add-one}
use lib.ListN.{get_or}
use Rattle.fp_board_rule.specs.Steps.{both}

both_none : {A : Type 0} (f : A → A → A) (xs : List A) → both f xs [] ≡ xs
both_none f [] = refl
both_none f (x ∷ xs) = refl

pub both_start : {A : Type 0} (f : A → A → A) (xs ys : List A) → xs ≡ both f xs (take 0 ys)
both_start f xs ys = sym (both_none f xs)

both_next : {A : Type 0} (f : A → A → A) (d : A) (xs ys : List A) (k : ℕ) → k < length xs → k < length ys → set (both f xs (take k ys)) k (f (get_or (both f xs (take k ys)) k d) (get_or ys k d)) ≡ both f xs (take (suc k) ys)
both_next f d [] ys k near near' = absurd (omega arith)
both_next f d (x ∷ xs) [] k near near' = absurd (omega arith)
both_next f d (x ∷ xs) (y ∷ ys) zero near near' = ap (λ l. f x y ∷ l) (sym (both_none f xs))
both_next f d (x ∷ xs) (y ∷ ys) (suc k) near near' = ap (λ l. f x y ∷ l) (both_next f d xs ys k (omega arith) (omega arith))

pub both_step : {A : Type 0} (f : A → A → A) (d : A) (xs ys zs : List A) (k : ℕ) → k < length xs → k < length ys → zs ≡ both f xs (take k ys) → set zs k (f (get_or zs k d) (get_or ys k d)) ≡ both f xs (take (k + 1) ys)
both_step f d xs ys zs k near near' is = ap (λ l. set l k (f (get_or l k d) (get_or ys k d))) is ∙ (both_next f d xs ys k near near' ∙ ap (λ (n : ℕ). both f xs (take n ys)) (sym (add-one k)))

pub length-both : {A : Type 0} (f : A → A → A) (xs ys : List A) → length (both f xs ys) ≡ length xs
length-both f [] ys = refl
length-both f (x ∷ xs) [] = refl
length-both f (x ∷ xs) (y ∷ ys) = let h = length-both f xs ys in omega arith
