-- What constants are declared as.
use Rattle.std.specs.Prelude.{◌≡◌, ℕ, List, Option, Some, None}
use Rattle.fp_term.specs.Types.{Typ, found_type, IsInstance}
use Rattle.fp_term.specs.declared.signature.Signature.{Signature}

-- a constant has exactly its declared type, as a function that is being defined, or each instance of it
pub data Declared : Type 0 where
  exactly : Typ → Declared
  instances : Typ → Declared

abbrev pub Declarations : Type 0
Declarations = List ℕ → Option Declared

abbrev pub declared_by : Option Typ → Option Typ → Option Declared
declared_by (Some t) generic = Some (exactly t)
declared_by None (Some t) = Some (instances t)
declared_by None None = None

-- those of a signature, and before them those of exact types
abbrev pub declarations : Signature → List (List ℕ × Typ) → Declarations
declarations g exact a = declared_by (found_type a exact) (found_type a g.consts)

abbrev pub IsDeclared : Declared → Typ → Type 0
IsDeclared (exactly s) t = t ≡ s
IsDeclared (instances s) t = IsInstance s t
