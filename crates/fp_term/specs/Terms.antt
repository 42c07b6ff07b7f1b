-- Terms of higher-order logic as data.
use Rattle.std.specs.Prelude.{◌≡◌, ◌≤◌, ℕ, ◌+◌, ◌-◌, max, Bool, true, false, ◌&&◌, ◌||◌, ◌==◌, if◌then◌else◌, List, [], ◌∷◌, ◌++◌, Option, Some, None}
use Rattle.std.specs.Str.{bytes_eq}
use Rattle.fp_term.specs.Names.{name_hash, mixed}
use Rattle.fp_term.specs.Types.{Typ, type_eq, type_hash, is_polymorphic, retyped}

pub data Tm : Type 0 where
  bound : ℕ → Tm
  free : List ℕ → Typ → Tm
  constant : List ℕ → Typ → Tm
  app : Tm → Tm → Tm
  abs : Typ → Tm → Tm

abbrev pub height_of : Tm → ℕ
height_of (bound n) = 1
height_of (free a s) = 1
height_of (constant a s) = 1
height_of (app f x) = max (height_of f) (height_of x) + 1
height_of (abs s x) = height_of x + 1

abbrev pub size_of : Tm → ℕ
size_of (bound n) = 1
size_of (free a s) = 1
size_of (constant a s) = 1
size_of (app f x) = size_of f + size_of x + 1
size_of (abs s x) = size_of x + 1

-- the counts of a term, within their bounds
pub record Counts (height size : ℕ) (t : Tm) : Type 0 where
  pub height_is : height ≡ height_of t
  pub size_is : size ≡ size_of t
  pub low : height ≤ 4000
  pub small : size ≤ 67108864

-- a number below 2 ^ 32 in which unequal terms mostly differ
abbrev pub term_hash : Tm → ℕ
term_hash (bound n) = mixed 5 n 0
term_hash (free a s) = mixed 6 (name_hash a) (type_hash s)
term_hash (constant a s) = mixed 7 (name_hash a) (type_hash s)
term_hash (app f x) = mixed 8 (term_hash f) (term_hash x)
term_hash (abs s x) = mixed 9 (type_hash s) (term_hash x)

-- how many abstractions around the term bind each of its numbers
abbrev pub loose_of : Tm → ℕ
loose_of (bound n) = n + 1
loose_of (free a s) = 0
loose_of (constant a s) = 0
loose_of (app f x) = max (loose_of f) (loose_of x)
loose_of (abs s x) = loose_of x - 1

-- has the term a free variable?
abbrev pub is_open : Tm → Bool
is_open (bound n) = false
is_open (free a s) = true
is_open (constant a s) = false
is_open (app f x) = is_open f || is_open x
is_open (abs s x) = is_open x

-- has it a type variable?
abbrev pub has_type_variables : Tm → Bool
has_type_variables (bound n) = false
has_type_variables (free a s) = is_polymorphic s
has_type_variables (constant a s) = is_polymorphic s
has_type_variables (app f x) = has_type_variables f || has_type_variables x
has_type_variables (abs s x) = is_polymorphic s || has_type_variables x

-- what is known of a term without a walk
pub record Marked (hash loose : ℕ) (variables polymorphic : Bool) (t : Tm) : Type 0 where
  pub hash_is : hash ≡ term_hash t
  pub loose_is : loose ≡ loose_of t
  pub variables_is : variables ≡ is_open t
  pub polymorphic_is : polymorphic ≡ has_type_variables t

abbrev pub term_eq : Tm → Tm → Bool
term_eq (bound n) (bound m) = n == m
term_eq (free a s) (free b t) = bytes_eq a b && type_eq s t
term_eq (constant a s) (constant b t) = bytes_eq a b && type_eq s t
term_eq (app f x) (app g y) = term_eq f g && term_eq x y
term_eq (abs s x) (abs t y) = type_eq s t && term_eq x y
term_eq _ _ = false

-- the term with `by` in place of the loose number `at`
abbrev pub opened : ℕ → Tm → Tm → Tm
opened at by (bound n) = if n == at then by else bound n
opened at by (free a s) = free a s
opened at by (constant a s) = constant a s
opened at by (app f x) = app (opened at by f) (opened at by x)
opened at by (abs s x) = abs s (opened (at + 1) by x)

-- the term with the loose number `at` in place of the variable `name` of type `ty`
abbrev pub closed : ℕ → List ℕ → Typ → Tm → Tm
closed at name ty (bound n) = bound n
closed at name ty (free a s) = if bytes_eq a name && type_eq s ty then bound at else free a s
closed at name ty (constant a s) = constant a s
closed at name ty (app f x) = app (closed at name ty f) (closed at name ty x)
closed at name ty (abs s x) = abs s (closed (at + 1) name ty x)

-- the term of the first pair for the variable
abbrev pub found : List ℕ → Typ → List (List ℕ × Typ × Tm) → Option Tm
found name ty [] = None
found name ty (pair ∷ rest) = if bytes_eq pair.0 name && type_eq pair.1 ty then Some pair.2 else found name ty rest

abbrev pub or_else : Option Tm → Tm → Tm
or_else None t = t
or_else (Some u) t = u

-- the term with the terms of the pairs in place of their variables, all at once
abbrev pub replaced : List (List ℕ × Typ × Tm) → Tm → Tm
replaced pairs (bound n) = bound n
replaced pairs (free a s) = or_else (found a s pairs) (free a s)
replaced pairs (constant a s) = constant a s
replaced pairs (app f x) = app (replaced pairs f) (replaced pairs x)
replaced pairs (abs s x) = abs s (replaced pairs x)

-- the term with the types of the pairs in place of their variables, all at once
abbrev pub retyped_term : List (List ℕ × Typ) → Tm → Tm
retyped_term pairs (bound n) = bound n
retyped_term pairs (free a s) = free a (retyped pairs s)
retyped_term pairs (constant a s) = constant a (retyped pairs s)
retyped_term pairs (app f x) = app (retyped_term pairs f) (retyped_term pairs x)
retyped_term pairs (abs s x) = abs (retyped pairs s) (retyped_term pairs x)

-- the head applied to the arguments, one after the other
abbrev pub applied_to : Tm → List Tm → Tm
applied_to head [] = head
applied_to head (t ∷ ts) = applied_to (app head t) ts

-- what is applied in a term, to no argument where the term isn't an application
abbrev pub head_of : Tm → Tm
head_of (bound n) = bound n
head_of (free a s) = free a s
head_of (constant a s) = constant a s
head_of (app f x) = head_of f
head_of (abs s x) = abs s x

-- the arguments to which its head is applied, the first one first
abbrev pub arguments_of : Tm → List Tm
arguments_of (bound n) = []
arguments_of (free a s) = []
arguments_of (constant a s) = []
arguments_of (app f x) = arguments_of f ++ x ∷ []
arguments_of (abs s x) = []
