-- Constants that are defined one after the other.
use Rattle.std.specs.Prelude.{◌≡◌, ℕ, List, [], ◌∷◌}
use Rattle.fp_term.specs.Terms.{Tm}
use Rattle.fp_kernel.specs.Theorems.{Theorem}
use Rattle.fp_kernel.specs.Defining.{FaultIs}
use Rattle.fp_kernel.specs.declared.fault.DefFault.{DefFault}
use Rattle.fp_kernel.specs.declared.fault.DefFault.TheVariants.{NoMemory}
use Rattle.fp_theory.specs.State.{State}
use Rattle.fp_theory.specs.Defining.{defining_in, DefinesIn}
use Rattle.fp_theory.specs.Changes.{IsMarkOf, IsAtMost, cut_to}
use Rattle.fp_theory.specs.declared.mark.Mark.{Mark}

-- each constant is defined by its term, in the order of the list, and these are the theorems
pub data DefinesEach : State → List (List ℕ × Tm) → List Theorem → State → Type 0 where
  none : {old : State} → DefinesEach old [] [] old
  next : {old between new : State} {name : List ℕ} {body : Tm} {th : Theorem} {terms : List (List ℕ × Tm)} {ths : List Theorem} →
      DefinesIn old between name body th → DefinesEach between terms ths new → DefinesEach old ((name, body) ∷ terms) (th ∷ ths) new

-- the fault of the first definition that is refused; or want of memory, at any of them
pub data RefusesAt : State → List (List ℕ × Tm) → DefFault → Type 0 where
  memory : {old : State} {terms : List (List ℕ × Tm)} → RefusesAt old terms NoMemory
  here : {old : State} {name : List ℕ} {body : Tm} {terms : List (List ℕ × Tm)} {fault : DefFault} → FaultIs fault (defining_in old name body) → RefusesAt old ((name, body) ∷ terms) fault
  later : {old between : State} {name : List ℕ} {body : Tm} {th : Theorem} {terms : List (List ℕ × Tm)} {fault : DefFault} →
      DefinesIn old between name body th → RefusesAt between terms fault → RefusesAt old ((name, body) ∷ terms) fault

-- the newer state cut to the lengths of the older one is the older one
pub record Extends (old new : State) : Type 0 where
  pub cut : (m : Mark) → IsMarkOf old m → cut_to m new ≡ old
  pub most : (m : Mark) → IsMarkOf old m → IsAtMost m new
