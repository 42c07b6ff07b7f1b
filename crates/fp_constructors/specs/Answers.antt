-- What is answered where the theorems of a type and its constructors are asked for.
use Rattle.std.specs.Prelude.{◌≡◌, ℕ, not, ◌||◌, if◌then◌else◌, List, [], ◌∷◌, ◌++◌, map, Option, Some, None, is_some, Result, Ok, Err}
use Rattle.fp_term.specs.Types.{found_type}
use Rattle.fp_term.specs.Terms.{Tm}
use Rattle.fp_term.specs.Variables.{is_among}
use Rattle.fp_term.specs.Signatures.{arity_of, first_of}
use Rattle.fp_term.specs.declared.signature.Signature.{Signature}
use Rattle.fp_group.specs.declared.constructors.ConType.{ConType}
use Rattle.fp_constructors.specs.Forms.{constructor_parameters}
use Rattle.fp_constructors.specs.Needed.{needed}
use Rattle.fp_constructors.specs.declared.needed.Needed.{Needed}
use Rattle.fp_constructors.specs.declared.fault.ConFault.{ConFault}
use Rattle.fp_constructors.specs.declared.fault.ConFault.TheVariants.{UnknownName, NotConstructor, NoMemory}

-- the name, where there is no such type
abbrev pub unless_type : Option ℕ → List ℕ → Option (List ℕ)
unless_type None name = Some name
unless_type (Some arity) name = None

-- the first that isn't a constant
abbrev pub first_unknown : Signature → List (List ℕ) → Option (List ℕ)
first_unknown signature [] = None
first_unknown signature (con ∷ cons) = if is_some (found_type con signature.consts) then first_unknown signature cons else Some con

abbrev pub unknown_of : Signature → ConType → Option (List ℕ)
unknown_of signature type = first_of (unless_type (arity_of type.name signature.types) type.name) (first_unknown signature type.cons)

-- the first that is there a second time or isn't a constructor of the type of that name
abbrev pub first_other : Signature → List ℕ → List (List ℕ) → List (List ℕ) → Option (List ℕ)
first_other signature name before [] = None
first_other signature name before (con ∷ cons) =
    if is_among before con || not (is_some (constructor_parameters signature name con)) then Some con else first_other signature name (before ++ con ∷ []) cons

abbrev pub other_of : Signature → ConType → Option (List ℕ)
other_of signature type = first_other signature type.name [] type.cons

-- the constants are constructors of the type, no two of them one
pub record AreConstructors (signature : Signature) (type : ConType) : Type 0 where
  pub known : unknown_of signature type ≡ None
  pub fit : other_of signature type ≡ None

abbrev pub named : Needed → List ℕ × Tm
named n = (n.name, n.statement)

abbrev pub Needs : Signature → ConType → Result (List Needed) ConFault → Type 0
Needs signature type (Ok needs) = AreConstructors signature type × (map named needs ≡ needed signature type)
Needs signature type (Err (UnknownName name)) = unknown_of signature type ≡ Some name
Needs signature type (Err (NotConstructor name)) = (unknown_of signature type ≡ None) × (other_of signature type ≡ Some name)
Needs signature type (Err NoMemory) = Unit {0}

-- that fault, or want of memory
abbrev pub IsUnknown : List ℕ → ConFault → Type 0
IsUnknown name (UnknownName unknown) = unknown ≡ name
IsUnknown name (NotConstructor other) = ⊥
IsUnknown name NoMemory = Unit {0}

abbrev pub IsOther : List ℕ → ConFault → Type 0
IsOther name (UnknownName unknown) = ⊥
IsOther name (NotConstructor other) = other ≡ name
IsOther name NoMemory = Unit {0}
