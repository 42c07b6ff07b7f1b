-- The variables of terms and types, in the order of the term read from the left: an abstraction's type before its body, a function before its argument.
use Rattle.std.specs.Prelude.{ℕ, Bool, false, ◌&&◌, ◌||◌, if◌then◌else◌, List, [], ◌∷◌, ◌++◌, Option, Some, None}
use Rattle.std.specs.Str.{bytes_eq}
use Rattle.fp_term.specs.Types.{Typ, Typs, variable, applied, none, more, type_eq}
use Rattle.fp_term.specs.Terms.{Tm, bound, free, constant, app, abs}

abbrev pub free_names : Tm → List (List ℕ)
free_names (bound n) = []
free_names (free name s) = name ∷ []
free_names (constant name s) = []
free_names (app f x) = free_names f ++ free_names x
free_names (abs s x) = free_names x

abbrev mutual
  pub type_names : Typ → List (List ℕ)
  type_names (variable name) = name ∷ []
  type_names (applied name args) = all_type_names args

  pub all_type_names : Typs → List (List ℕ)
  all_type_names none = []
  all_type_names (more first rest) = type_names first ++ all_type_names rest

abbrev pub type_names_in : Tm → List (List ℕ)
type_names_in (bound n) = []
type_names_in (free name s) = type_names s
type_names_in (constant name s) = type_names s
type_names_in (app f x) = type_names_in f ++ type_names_in x
type_names_in (abs s x) = type_names s ++ type_names_in x

abbrev pub is_among : List (List ℕ) → List ℕ → Bool
is_among [] name = false
is_among (a ∷ names) name = bytes_eq a name || is_among names name

-- the first name that isn't among the known ones
abbrev pub first_beyond : List (List ℕ) → List (List ℕ) → Option (List ℕ)
first_beyond known [] = None
first_beyond known (name ∷ names) = if is_among known name then first_beyond known names else Some name

abbrev pub first_free_of : Tm → Option (List ℕ)
first_free_of t = first_beyond [] (free_names t)

-- the first type variable of the term that isn't in the type
abbrev pub hidden_of : Tm → Typ → Option (List ℕ)
hidden_of t s = first_beyond (type_names s) (type_names_in t)

-- is the variable free in the term?
abbrev pub occurs : List ℕ → Typ → Tm → Bool
occurs name ty (bound n) = false
occurs name ty (free a s) = bytes_eq a name && type_eq s ty
occurs name ty (constant a s) = false
occurs name ty (app f x) = occurs name ty f || occurs name ty x
occurs name ty (abs s x) = occurs name ty x

-- is the variable one of those?
abbrev pub is_variable_among : List (List ℕ × Typ) → List ℕ → Typ → Bool
is_variable_among [] name ty = false
is_variable_among (pair ∷ rest) name ty = (bytes_eq pair.0 name && type_eq pair.1 ty) || is_variable_among rest name ty

-- those variables and, where it is none of them, this one
abbrev pub with_variable : List (List ℕ × Typ) → List ℕ → Typ → List (List ℕ × Typ)
with_variable known name ty = if is_variable_among known name ty then known else known ++ (name, ty) ∷ []

-- those variables and the free ones of the term that aren't among them, each once, in the order of their first places
abbrev pub with_variables : List (List ℕ × Typ) → Tm → List (List ℕ × Typ)
with_variables known (bound n) = known
with_variables known (free name s) = with_variable known name s
with_variables known (constant name s) = known
with_variables known (app f x) = with_variables (with_variables known f) x
with_variables known (abs s x) = with_variables known x

-- the free variables of the term, each once, in the order of their first places
abbrev pub variables_of : Tm → List (List ℕ × Typ)
variables_of t = with_variables [] t
