-- The form in which a term is printed: which of its parts a symbol joins, and how tightly.
use Rattle.std.specs.Prelude.{ℕ, if◌then◌else◌, List, Option, Some, None, codes}
use Rattle.std.specs.Str.{bytes_eq}
use Rattle.fp_term.specs.Terms.{Tm, bound, free, constant, app, abs}

-- a symbol between two parts: the level of the whole, and the levels that its parts need
pub record Infix : Type 0 where
  pub symbol : List ℕ
  pub level : ℕ
  pub left : ℕ
  pub right : ℕ

abbrev pub infix_of : List ℕ → ℕ → ℕ → ℕ → Infix
infix_of symbol level left right = record { symbol = symbol; level = level; left = left; right = right }

-- the symbol of a constant of two arguments
abbrev pub operator : List ℕ → Option Infix
operator c =
    if bytes_eq c (codes "imp") then Some (infix_of (codes "-->") 1 2 1) else
    (if bytes_eq c (codes "or") then Some (infix_of (codes "\\/") 2 3 2) else
    (if bytes_eq c (codes "and") then Some (infix_of (codes "/\\") 3 4 3) else
    (if bytes_eq c (codes "eq") then Some (infix_of (codes "=") 5 6 6) else
    (if bytes_eq c (codes "less") then Some (infix_of (codes "<") 5 6 6) else
    (if bytes_eq c (codes "leq") then Some (infix_of (codes "<=") 5 6 6) else
    (if bytes_eq c (codes "plus") then Some (infix_of (codes "+") 6 6 7) else
    (if bytes_eq c (codes "minus") then Some (infix_of (codes "-") 6 6 7) else
    (if bytes_eq c (codes "times") then Some (infix_of (codes "*") 7 7 8) else None))))))))

pub data Binder : Type 0 where
  lambda : Binder
  universal : Binder
  existential : Binder
  choice : Binder

-- the binder of a constant that is applied to an abstraction
abbrev pub binder_of : List ℕ → Option Binder
binder_of c =
    if bytes_eq c (codes "all") then Some universal else
    (if bytes_eq c (codes "ex") then Some existential else
    (if bytes_eq c (codes "select") then Some choice else None))

-- what is printed of a term: a name, a bound number, a body under a binder, two parts with a symbol between them,
-- `~` before a part, `if` with its three parts, a pair, or a function and its argument
pub data Shape : Type 0 where
  named : List ℕ → Shape
  numbered : ℕ → Shape
  bound_by : Binder → Shape → Shape
  joined_by : Infix → Shape → Shape → Shape
  negated : Shape → Shape
  chosen : Shape → Shape → Shape → Shape
  paired : Shape → Shape → Shape
  applied_to : Shape → Shape → Shape

-- a constant with one argument
abbrev pub with_one : List ℕ → Shape → Shape
with_one c x = if bytes_eq c (codes "not") then negated x else applied_to (named c) x

-- a constant whose argument is an abstraction with that body
abbrev pub with_body : List ℕ → Option Binder → Shape → Shape
with_body c None x = with_one c (bound_by lambda x)
with_body c (Some binder) x = bound_by binder x

-- a constant with two arguments, whose application to the first is `fx`
abbrev pub with_two : List ℕ → Option Infix → Shape → Shape → Shape → Shape
with_two c (Some symbol) fx x y = joined_by symbol x y
with_two c None fx x y = if bytes_eq c (codes "Pair") then paired x y else applied_to fx y

-- a constant with three arguments, whose application to the first two is `fxy`
abbrev pub with_three : List ℕ → Shape → Shape → Shape → Shape → Shape
with_three c fxy x y z = if bytes_eq c (codes "If") then chosen x y z else applied_to fxy z

-- only a constant with exactly its number of arguments has a symbol
abbrev pub shape : Tm → Shape
shape (bound n) = numbered n
shape (free a s) = named a
shape (constant a s) = named a
shape (abs s x) = bound_by lambda (shape x)
shape (app (constant c s) (abs r x)) = with_body c (binder_of c) (shape x)
shape (app (constant c s) x) = with_one c (shape x)
shape (app (app (constant c s) x) y) = with_two c (operator c) (shape (app (constant c s) x)) (shape x) (shape y)
shape (app (app (app (constant c s) x) y) z) = with_three c (shape (app (app (constant c s) x) y)) (shape x) (shape y) (shape z)
shape (app f x) = applied_to (shape f) (shape x)
