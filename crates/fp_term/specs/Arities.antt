-- Type constructors with the numbers of their arguments.
use Rattle.std.specs.Prelude.{ℕ, if◌then◌else◌, List, [], ◌∷◌, Option, Some, None}
use Rattle.std.specs.Str.{bytes_eq}

-- how many arguments the constructor has
abbrev pub arity_of : List ℕ → List (List ℕ × ℕ) → Option ℕ
arity_of name [] = None
arity_of name (pair ∷ rest) = if bytes_eq pair.0 name then Some pair.1 else arity_of name rest
