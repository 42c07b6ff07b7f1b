-- When a term is well typed over a signature.
use Rattle.std.specs.Prelude.{◌≡◌, ℕ, Bool, false, ◌==◌, if◌then◌else◌, List, [], ◌∷◌, Option, Some, None}
use Rattle.std.specs.Str.{bytes_eq}
use Rattle.fp_term.specs.Types.{Typ, Typs, variable, applied, none, more, count, found_type, is_instance, IsInstance}
pub use Rattle.fp_term.specs.Arities.{arity_of}
use Rattle.fp_term.specs.Terms.{Tm, bound, free, constant, app, abs}
use Rattle.fp_term.specs.Typing.{type_under}
use Rattle.fp_term.specs.declared.signature.Signature.{Signature}

-- each type constructor has its declared number of arguments
abbrev mutual
  pub IsType : Signature → Typ → Type 0
  IsType signature (variable name) = Unit {0}
  IsType signature (applied name args) = (arity_of name signature.types ≡ Some (count args)) × AreTypes signature args

  pub AreTypes : Signature → Typs → Type 0
  AreTypes signature none = Unit {0}
  AreTypes signature (more first rest) = IsType signature first × AreTypes signature rest

-- the constant's type is an instance of its declared type
pub record IsConstant (signature : Signature) (name : List ℕ) (type : Typ) : Type 0 where
  pub declared : Typ
  pub found : found_type name signature.consts ≡ Some declared
  pub instance : IsInstance declared type

-- each type and each constant of the term is one of the signature
abbrev pub IsOver : Signature → Tm → Type 0
IsOver signature (bound n) = Unit {0}
IsOver signature (free name s) = IsType signature s
IsOver signature (constant name s) = IsConstant signature name s × IsType signature s
IsOver signature (app f x) = IsOver signature f × IsOver signature x
IsOver signature (abs s x) = IsType signature s × IsOver signature x

-- the term is well typed over the signature, with this type
pub record IsWellTyped (signature : Signature) (t : Tm) (type : Typ) : Type 0 where
  pub typed : type_under [] t ≡ Some type
  pub over : IsOver signature t

-- the first of two
abbrev pub first_of : Option (List ℕ) → Option (List ℕ) → Option (List ℕ)
first_of None later = later
first_of (Some name) later = Some name

abbrev pub has_count : Option ℕ → ℕ → Bool
has_count None n = false
has_count (Some arity) n = n == arity

-- the first type constructor that isn't in the signature with so many arguments
abbrev mutual
  pub unknown_in_type : Signature → Typ → Option (List ℕ)
  unknown_in_type signature (variable name) = None
  unknown_in_type signature (applied name args) = if has_count (arity_of name signature.types) (count args) then unknown_in_types signature args else Some name

  pub unknown_in_types : Signature → Typs → Option (List ℕ)
  unknown_in_types signature none = None
  unknown_in_types signature (more first rest) = first_of (unknown_in_type signature first) (unknown_in_types signature rest)

abbrev pub has_instance : Option Typ → Typ → Bool
has_instance None s = false
has_instance (Some declared) s = is_instance declared s

-- the first name of the term that isn't in the signature as it stands there
abbrev pub unknown_in : Signature → Tm → Option (List ℕ)
unknown_in signature (bound n) = None
unknown_in signature (free name s) = unknown_in_type signature s
unknown_in signature (constant name s) = if has_instance (found_type name signature.consts) s then unknown_in_type signature s else Some name
unknown_in signature (app f x) = first_of (unknown_in signature f) (unknown_in signature x)
unknown_in signature (abs s x) = first_of (unknown_in_type signature s) (unknown_in signature x)
