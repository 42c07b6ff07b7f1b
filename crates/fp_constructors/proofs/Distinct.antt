-- The distinct names of two lists, one after the other.
use Rattle.std.proofs.Common.{◌≡◌, ℕ, cond, List, [], ◌∷◌, ◌++◌, refl}
use Rattle.fp_term.specs.Variables.{is_among}
use Rattle.fp_constructors.specs.Naming.{distinct_after}

pub distinct_append : (known xs ys : List (List ℕ)) → distinct_after known (xs ++ ys) ≡ distinct_after (distinct_after known xs) ys
distinct_append known [] ys = refl
distinct_append known (x ∷ xs) ys = distinct_append (cond (is_among known x) known (known ++ x ∷ [])) xs ys
