-- Theorems that are equations of given terms.
use Rattle.std.specs.Prelude.{◌≡◌, ℕ, List}
use Rattle.fp_term.specs.Types.{Typ}
use Rattle.fp_term.specs.Terms.{Tm, app}
use Rattle.fp_term.specs.Signatures.{IsWellTyped}
use Rattle.fp_term.specs.declared.signature.Signature.{Signature}
use Rattle.fp_conclude.specs.Logic.{equal}
use Rattle.fp_conclude.specs.Outcomes.{Outcome, gives}
use Rattle.fp_kernel.specs.Definitions.{Def}
use Rattle.fp_kernel.specs.Start.{signature_of}
use Rattle.fp_kernel.specs.Theorems.{Theorem}

-- the term is well typed over the signature, with some type
pub record IsTyped (signature : Signature) (t : Tm) : Type 0 where
  pub type : Typ
  pub well : IsWellTyped signature t type

-- the rule gives something
pub record IsGiven {A : Type 0} (o : Outcome A) : Type 0 where
  pub value : A
  pub given : o ≡ gives value

-- the theorem is `t = u` over the definitions, at the type of `t`
pub record Equates (defs : List Def) (promises : List (ℕ × Tm)) (hyps : List Tm) (t u : Tm) (th : Theorem) : Type 0 where
  pub type : Typ
  pub typed : IsWellTyped (signature_of defs) t type
  pub is : th ≡ record { defs = defs; promises = promises; hyps = hyps; concl = equal type t u }

-- the right side of an equation
abbrev pub right_of : Tm → Tm
right_of (app f x) = x
right_of t = t
