-- The form of a constructor's type: `T1 => .. => Tn => t`, where `t` is the type applied to distinct type variables, all those of the arguments among them.
use Rattle.std.specs.Prelude.{ℕ, Bool, true, not, ◌&&◌, if◌then◌else◌, List, [], ◌∷◌, ◌++◌, Option, Some, None}
use Rattle.std.specs.List.{list_all}
use Rattle.std.specs.Str.{bytes_eq}
use Rattle.fp_term.specs.Names.{function}
use Rattle.fp_term.specs.Types.{Typ, Typs, variable, applied, none, more, found_type}
use Rattle.fp_term.specs.Variables.{is_among, type_names}
use Rattle.fp_term.specs.declared.signature.Signature.{Signature}
use Rattle.fp_pattern.specs.Patterns.{outcome}

-- the types of the arguments that a function takes, one after the other
abbrev mutual
  pub arguments : Typ → List Typ
  arguments (variable name) = []
  arguments (applied name types) = if bytes_eq name function then arguments_in types else []

  pub arguments_in : Typs → List Typ
  arguments_in none = []
  arguments_in (more from rest) = arguments_after from rest

  pub arguments_after : Typ → Typs → List Typ
  arguments_after from none = []
  arguments_after from (more to none) = from ∷ arguments to
  arguments_after from (more to (more other rest)) = []

-- the names before and those of the types, where all of these are type variables
abbrev pub variable_names : List (List ℕ) → Typs → Option (List (List ℕ))
variable_names before none = Some before
variable_names before (more (variable a) rest) = variable_names (before ++ a ∷ []) rest
variable_names before (more (applied a types) rest) = None

-- the parameters of a type of that name which is applied to type variables
abbrev pub parameters : List ℕ → Typ → Option (List (List ℕ))
parameters name (variable a) = None
parameters name (applied a types) = if bytes_eq a name then variable_names [] types else None

abbrev pub are_distinct : List (List ℕ) → Bool
are_distinct [] = true
are_distinct (a ∷ names) = not (is_among names a) && are_distinct names

-- are all type variables of the type among those?
abbrev pub is_within : List (List ℕ) → Typ → Bool
is_within params s = list_all (is_among params) (type_names s)

-- the parameters, where they are distinct and have all type variables of the arguments
abbrev pub unless_hidden : Option (List (List ℕ)) → List Typ → Option (List (List ℕ))
unless_hidden None args = None
unless_hidden (Some params) args = if are_distinct params && list_all (is_within params) args then Some params else None

-- the parameters of a type of a constructor of the type of that name
abbrev pub parameters_in : List ℕ → Typ → Option (List (List ℕ))
parameters_in name s = if bytes_eq name function then None else unless_hidden (parameters name (outcome s)) (arguments s)

abbrev pub parameters_of : List ℕ → Option Typ → Option (List (List ℕ))
parameters_of name None = None
parameters_of name (Some s) = parameters_in name s

-- the parameters of the type at which the constant is a constructor of the type of that name
abbrev pub constructor_parameters : Signature → List ℕ → List ℕ → Option (List (List ℕ))
constructor_parameters signature name con = parameters_of name (found_type con signature.consts)
