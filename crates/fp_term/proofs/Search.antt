-- Searching lists of names that stand one after the other.
use Rattle.std.proofs.Common.{◌≡◌, ℕ, true, false, ◌||◌, List, [], ◌∷◌, ◌++◌, refl, sym}
use Rattle.std.specs.Prelude.{Some, None}
use Rattle.std.specs.Str.{bytes_eq}
use Rattle.std.proofs.lemmas.Option.{none-some}
use Rattle.fp_term.proofs.Choices.{chosen_alike}
use Rattle.fp_term.specs.Variables.{is_among, first_beyond}

pub among_append : (xs ys : List (List ℕ)) (name : List ℕ) → is_among (xs ++ ys) name ≡ (is_among xs name || is_among ys name)
among_append [] ys name = refl
among_append (x ∷ xs) ys name =
    elim (bytes_eq x name) as (λ b. (b || is_among (xs ++ ys) name) ≡ ((b || is_among xs name) || is_among ys name)) [ true ↦ refl | false ↦ among_append xs ys name ]

pub found_before : (known xs ys : List (List ℕ)) (name : List ℕ) → first_beyond known xs ≡ Some name → first_beyond known (xs ++ ys) ≡ Some name
found_before known [] ys name e = cc
found_before known (x ∷ xs) ys name e = chosen_alike (is_among known x) _ _ _ _ _ _ (λ _ f. found_before known xs ys name f) (λ _ f. f) e

pub found_after : (known xs ys : List (List ℕ)) → first_beyond known xs ≡ None → first_beyond known (xs ++ ys) ≡ first_beyond known ys
found_after known [] ys e = refl
found_after known (x ∷ xs) ys e = chosen_alike (is_among known x) _ _ _ _ _ _ (λ _ f. found_after known xs ys f) (λ _ f. absurd (none-some x (sym f))) e
