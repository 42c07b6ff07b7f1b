-- Signatures in which functions are what they are, and whose constants have types of it.
use Rattle.std.specs.Prelude.{◌≡◌, ℕ, List, Some}
use Rattle.fp_term.specs.Names.{function}
use Rattle.fp_term.specs.Types.{Typ, found_type}
use Rattle.fp_term.specs.Signatures.{arity_of, IsType}
use Rattle.fp_term.specs.declared.signature.Signature.{Signature}

-- functions have two types, and each constant's type is one of the signature
pub record IsSoundSignature (s : Signature) : Type 0 where
  pub functions : arity_of function s.types ≡ Some 2
  pub declared : (a : List ℕ) (t : Typ) → found_type a s.consts ≡ Some t → IsType s t
