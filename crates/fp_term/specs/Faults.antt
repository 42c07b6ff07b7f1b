-- What the typing of a term answers.
use Rattle.std.specs.Prelude.{◌≡◌, ℕ, List, [], ◌∷◌, Option, Some, None, Result, Ok, Err}
use Rattle.fp_term.specs.Types.{Typ}
use Rattle.fp_term.specs.Terms.{Tm}
use Rattle.fp_term.specs.Typing.{type_under, ill_typed}
use Rattle.fp_term.specs.declared.typing.Scope.{Scope, Outermost, Under'}
use Rattle.fp_term.specs.declared.typing.TypeOfFault.{TypeOfFault}
use Rattle.fp_term.specs.declared.typing.TypeOfFault.TheVariants.{IllTyped, NoMemory}

-- the types of the abstractions around a place, innermost first
abbrev pub types_in : Scope → List Typ
types_in Outermost = []
types_in (Under' ty p outer) = ty.now ∷ types_in outer

-- what a fault says of a term
abbrev pub FaultOf : List Typ → Tm → TypeOfFault → Type 0
FaultOf env t (IllTyped place) = ill_typed env t ≡ Some place
FaultOf env t NoMemory = Unit {0}

-- the type of a term and that it is well typed, or what is wrong
pub record HasType (env : List Typ) (t : Tm) (s : Typ) : Type 0 where
  pub type_is : type_under env t ≡ Some s
  pub well : ill_typed env t ≡ None

abbrev pub TypeAnswer : List Typ → Tm → Result Typ TypeOfFault → Type 0
TypeAnswer env t (Ok s) = HasType env t s
TypeAnswer env t (Err fault) = FaultOf env t fault

-- the type of an application, if there is one
abbrev pub AppliedAnswer : Option Typ → Result Typ TypeOfFault → Type 0
AppliedAnswer o (Ok s) = o ≡ Some s
AppliedAnswer o (Err (IllTyped place)) = (o ≡ None) × (place ≡ [])
AppliedAnswer o (Err NoMemory) = Unit {0}

-- what a fault is, seen from one step above its term
abbrev pub StepOf : ℕ → TypeOfFault → TypeOfFault → Type 0
StepOf step (IllTyped place) (IllTyped above) = above ≡ step ∷ place
StepOf step NoMemory (IllTyped above) = ⊥
StepOf step fault NoMemory = Unit {0}
