-- The conditions of completion on the table, in the words of the signature.
use Rattle.std.specs.Prelude.{◌≡◌, ℕ, true, false, List, [], ◌∷◌, Some}
use Rattle.std.specs.Str.{bytes_eq}
use Rattle.fp_term.specs.Names.{function}
use Rattle.fp_term.specs.Types.{Typ, Typs, applied, found_type}
use Rattle.fp_term.specs.Terms.{Tm}
use Rattle.fp_term.specs.Variables.{is_among, type_names, all_type_names}
use Rattle.fp_term.specs.Signatures.{IsWellTyped}
use Rattle.fp_term.specs.declared.signature.Signature.{Signature}
use Rattle.fp_group.specs.declared.constructors.ConTable.{ConTable}
use Rattle.fp_pattern.specs.Patterns.{listed, is_listed, outcome}

-- the constructor's type ends in the type that it is listed at, which isn't the type of functions and has all the type variables
pub record IsConstructor (table : ConTable) (signature : Signature) (con : List ℕ) : Type 0 where
  pub declared : Typ
  pub name : List ℕ
  pub args : Typs
  pub found : found_type con signature.consts ≡ Some declared
  pub ends : outcome declared ≡ applied name args
  pub other : bytes_eq name function ≡ false
  pub among : is_among (listed table.types name) con ≡ true
  pub covers : (a : List ℕ) → is_among (type_names declared) a ≡ true → is_among (all_type_names args) a ≡ true

pub record HasConstructors (table : ConTable) (signature : Signature) : Type 0 where
  pub each : (con : List ℕ) → is_listed table.types con ≡ true → IsConstructor table signature con

-- well-typed patterns of the types
pub data AreWellTyped (signature : Signature) : List Typ → List Tm → Type 0 where
  no_terms : AreWellTyped signature [] []
  and_term :
      (s : Typ) (ss : List Typ) (p : Tm) (ps : List Tm) → IsWellTyped signature p s → AreWellTyped signature ss ps →
      AreWellTyped signature (s ∷ ss) (p ∷ ps)
