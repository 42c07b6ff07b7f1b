-- Written types and terms as data: each form has its place in the text.
use Rattle.std.specs.Prelude.{◌≡◌, ◌≤◌, ℕ, ◌+◌, max, List, [], ◌∷◌, Option, Some, None}
use Rattle.fp_term.specs.Types.{Typ, variable, applied, Typs, none, more}
use Rattle.fp_term.specs.Terms.{Tm, bound, free, constant, app, abs}

mutual
  pub data RawTyp : Type 0 where
    raw_variable : List ℕ → ℕ → RawTyp
    raw_applied : List ℕ → RawTyps → ℕ → RawTyp

  pub data RawTyps : Type 0 where
    raw_none : RawTyps
    raw_more : RawTyp → RawTyps → RawTyps

pub data RawTm : Type 0 where
  raw_name : List ℕ → ℕ → RawTm
  raw_bound : ℕ → ℕ → RawTm
  raw_free : List ℕ → RawTyp → ℕ → RawTm
  raw_constant : List ℕ → Option RawTyp → ℕ → RawTm
  raw_app : RawTm → RawTm → ℕ → RawTm
  raw_abs : Option (List ℕ) → Option RawTyp → RawTm → ℕ → RawTm
  raw_typed : RawTm → RawTyp → ℕ → RawTm

-- arguments as a list, and a list as arguments
abbrev pub arguments : List RawTyp → RawTyps
arguments [] = raw_none
arguments (t ∷ ts) = raw_more t (arguments ts)

abbrev pub argument_list : RawTyps → List RawTyp
argument_list raw_none = []
argument_list (raw_more t ts) = t ∷ argument_list ts

-- where a type is written, and where a term is
abbrev pub type_place : RawTyp → ℕ
type_place (raw_variable name at) = at
type_place (raw_applied name args at) = at

abbrev pub place : RawTm → ℕ
place (raw_name name at) = at
place (raw_bound n at) = at
place (raw_free name ty at) = at
place (raw_constant name ty at) = at
place (raw_app f x at) = at
place (raw_abs name ty body at) = at
place (raw_typed t ty at) = at

-- the levels of a type: its arguments are one
abbrev mutual
  pub raw_type_height : RawTyp → ℕ
  raw_type_height (raw_variable name at) = 1
  raw_type_height (raw_applied name args at) = raw_types_height args + 1

  pub raw_types_height : RawTyps → ℕ
  raw_types_height raw_none = 0
  raw_types_height (raw_more t ts) = max (raw_type_height t) (raw_types_height ts)

-- the variables and constructors of a type
abbrev mutual
  pub raw_type_size : RawTyp → ℕ
  raw_type_size (raw_variable name at) = 1
  raw_type_size (raw_applied name args at) = raw_types_size args + 1

  pub raw_types_size : RawTyps → ℕ
  raw_types_size raw_none = 0
  raw_types_size (raw_more t ts) = raw_type_size t + raw_types_size ts

-- the levels of a term
abbrev pub raw_height : RawTm → ℕ
raw_height (raw_name name at) = 1
raw_height (raw_bound n at) = 1
raw_height (raw_free name ty at) = 1
raw_height (raw_constant name ty at) = 1
raw_height (raw_app f x at) = max (raw_height f) (raw_height x) + 1
raw_height (raw_abs name ty body at) = raw_height body + 1
raw_height (raw_typed t ty at) = raw_height t + 1

-- the subterms of a term
abbrev pub raw_size : RawTm → ℕ
raw_size (raw_name name at) = 1
raw_size (raw_bound n at) = 1
raw_size (raw_free name ty at) = 1
raw_size (raw_constant name ty at) = 1
raw_size (raw_app f x at) = raw_size f + raw_size x + 1
raw_size (raw_abs name ty body at) = raw_size body + 1
raw_size (raw_typed t ty at) = raw_size t + 1

-- the counts of a type and of a term, within their bounds
pub record RawTypeCounts (height size : ℕ) (t : RawTyp) : Type 0 where
  pub height_is : height ≡ raw_type_height t
  pub size_is : size ≡ raw_type_size t
  pub low : height ≤ 1000
  pub small : size ≤ 67108864

pub record RawCounts (height size : ℕ) (t : RawTm) : Type 0 where
  pub height_is : height ≡ raw_height t
  pub size_is : size ≡ raw_size t
  pub low : height ≤ 4000
  pub small : size ≤ 67108864

-- a term in which nothing is left to be resolved, each part at one place
abbrev mutual
  pub full_type : ℕ → Typ → RawTyp
  full_type at (variable name) = raw_variable name at
  full_type at (applied name args) = raw_applied name (full_types at args) at

  pub full_types : ℕ → Typs → RawTyps
  full_types at none = raw_none
  full_types at (more first rest) = raw_more (full_type at first) (full_types at rest)

abbrev pub full : ℕ → Tm → RawTm
full at (bound n) = raw_bound n at
full at (free name ty) = raw_free name (full_type at ty) at
full at (constant name ty) = raw_constant name (Some (full_type at ty)) at
full at (app f x) = raw_app (full at f) (full at x) at
full at (abs ty x) = raw_abs None (Some (full_type at ty)) (full at x) at
