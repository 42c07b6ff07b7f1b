-- The first theorem that a theory lacks.
use Rattle.std.specs.Prelude.{◌≡◌, ℕ, Bool, false, if◌then◌else◌, List, [], ◌∷◌, map, Option, Some, None, Result, Ok, Err}
use Rattle.fp_term.specs.Terms.{Tm, term_eq}
use Rattle.fp_kernel.specs.Theorems.{Theorem}
use Rattle.fp_theory.specs.State.{found_theorem}
use Rattle.fp_constructors.specs.Answers.{named}
use Rattle.fp_constructors.specs.declared.needed.Needed.{Needed}
use Rattle.fp_data.specs.declared.fault.LackFault.{LackFault}
use Rattle.fp_data.specs.declared.fault.LackFault.TheVariants.{Lacks, NoMemory}

-- does the theorem state the term?
abbrev pub states : Option Theorem → Tm → Bool
states None t = false
states (Some th) t = term_eq th.concl t

-- the name of the first needed theorem that isn't there
abbrev pub first_lacking : List (List ℕ × Theorem) → List (List ℕ × Tm) → Option (List ℕ)
first_lacking theorems [] = None
first_lacking theorems (need ∷ needs) = if states (found_theorem need.0 theorems) need.1 then first_lacking theorems needs else Some need.0

abbrev pub Lacking : List (List ℕ × Theorem) → List Needed → Result (Unit {0}) LackFault → Type 0
Lacking theorems needs (Ok u) = first_lacking theorems (map named needs) ≡ None
Lacking theorems needs (Err (Lacks name)) = first_lacking theorems (map named needs) ≡ Some name
Lacking theorems needs (Err NoMemory) = Unit {0}

-- that fault, or want of memory
abbrev pub IsLack : List ℕ → LackFault → Type 0
IsLack name (Lacks lacking) = lacking ≡ name
IsLack name NoMemory = Unit {0}
