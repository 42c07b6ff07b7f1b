-- Several arguments as one: right nested pairs.
use Rattle.std.specs.Prelude.{ℕ, List, [], ◌∷◌, codes}
use Rattle.fp_term.specs.Types.{Typ, applied, none, more}
use Rattle.fp_term.specs.Terms.{Tm, constant, app}
use Rattle.fp_term.specs.Typing.{function_type}
use Rattle.fp_conclude.specs.Logic.{truth_type, true_constant}

-- the constructor of that name at two types
abbrev pub of_two : List ℕ → Typ → Typ → Typ
of_two name s t = applied name (more s (more t none))

abbrev pub pair_type : Typ → Typ → Typ
pair_type s t = of_two (codes "prod") s t

-- `Pair`, at two types
abbrev pub pairing : Typ → Typ → Tm
pairing s t = constant (codes "Pair") (function_type s (function_type t (pair_type s t)))

-- `(a, b)`
abbrev pub pair : Typ → Typ → Tm → Tm → Tm
pair s t a b = app (app (pairing s t) a) b

-- the type of `(x1, .., xn)`, for at least one
abbrev pub tuple_type : List Typ → Typ
tuple_type [] = truth_type
tuple_type (s ∷ []) = s
tuple_type (s ∷ t ∷ tys) = pair_type s (tuple_type (t ∷ tys))

-- `(t1, .., tn)`, for at least one
abbrev pub tuple : List Typ → List Tm → Tm
tuple [] ts = true_constant
tuple (s ∷ tys) [] = true_constant
tuple (s ∷ []) (a ∷ ts) = a
tuple (s ∷ t ∷ tys) (a ∷ ts) = pair s (tuple_type (t ∷ tys)) a (tuple (t ∷ tys) ts)
