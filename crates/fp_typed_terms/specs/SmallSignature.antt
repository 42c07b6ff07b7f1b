-- Signatures whose constants have types of them.
use Rattle.std.specs.Prelude.{◌≡◌, ℕ, List, Some}
use Rattle.fp_term.specs.Types.{Typ, found_type}
use Rattle.fp_term.specs.Signatures.{IsType}
use Rattle.fp_term.specs.declared.signature.Signature.{Signature}
use Rattle.fp_constrain.specs.Draws.{HasFunctions}

pub record DeclaresTypes (s : Signature) : Type 0 where
  pub declared : (a : List ℕ) (t : Typ) → found_type a s.consts ≡ Some t → IsType s t

pub record IsSmall (s : Signature) : Type 0 where
  pub functions : HasFunctions s
  pub declares : DeclaresTypes s
