-- Functions without measures have no lines.
use Rattle.std.proofs.Common.{◌≡◌, ◌≤◌, ℕ, zero, suc, List, [], ◌∷◌, drop, length, refl, arith}
use Rattle.std.specs.Prelude.{Bool}
use Rattle.fp_term.specs.Terms.{Tm}
use Rattle.fp_report.specs.Matrices.{measures_lines}

pub none_left : (full : Bool) (n : ℕ) (functions : List (List ℕ)) (measures : List (List Tm)) → length measures ≤ n → measures_lines full functions (drop n measures) ≡ []
none_left full n [] measures h = refl
none_left full zero (f ∷ functions) [] h = refl
none_left full (suc n) (f ∷ functions) [] h = refl
none_left full zero (f ∷ functions) (own ∷ measures) h = absurd (omega arith)
none_left full (suc n) (f ∷ functions) (own ∷ measures) h = none_left full n (f ∷ functions) measures (omega arith)
