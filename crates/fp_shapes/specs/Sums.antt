-- Values of several types as values of one: right nested sums.
use Rattle.std.specs.Prelude.{ℕ, zero, suc, List, [], ◌∷◌, codes}
use Rattle.fp_term.specs.Types.{Typ}
use Rattle.fp_term.specs.Terms.{Tm, constant, app}
use Rattle.fp_term.specs.Typing.{function_type}
use Rattle.fp_conclude.specs.Logic.{truth_type}
use Rattle.fp_shapes.specs.Tuples.{of_two}

abbrev pub sum_type : Typ → Typ → Typ
sum_type s t = of_two (codes "sum") s t

-- the sum of at least one type
abbrev pub sums : List Typ → Typ
sums [] = truth_type
sums (s ∷ []) = s
sums (s ∷ t ∷ tys) = sum_type s (sums (t ∷ tys))

-- `Inl`, `Inr`, `outl` and `outr`, at two types
abbrev pub left_in : Typ → Typ → Tm
left_in s t = constant (codes "Inl") (function_type s (sum_type s t))

abbrev pub right_in : Typ → Typ → Tm
right_in s t = constant (codes "Inr") (function_type t (sum_type s t))

abbrev pub left_out : Typ → Typ → Tm
left_out s t = constant (codes "outl") (function_type (sum_type s t) s)

abbrev pub right_out : Typ → Typ → Tm
right_out s t = constant (codes "outr") (function_type (sum_type s t) t)

-- a value of the type of that number, from 0, in the sum
abbrev pub inject : List Typ → ℕ → Tm → Tm
inject [] i t = t
inject (s ∷ []) i t = t
inject (s ∷ u ∷ tys) zero t = app (left_in s (sums (u ∷ tys))) t
inject (s ∷ u ∷ tys) (suc i) t = app (right_in s (sums (u ∷ tys))) (inject (u ∷ tys) i t)

-- a value of the sum as one of the type of that number
abbrev pub project : List Typ → ℕ → Tm → Tm
project [] i t = t
project (s ∷ []) i t = t
project (s ∷ u ∷ tys) zero t = app (left_out s (sums (u ∷ tys))) t
project (s ∷ u ∷ tys) (suc i) t = project (u ∷ tys) i (app (right_out s (sums (u ∷ tys))) t)
