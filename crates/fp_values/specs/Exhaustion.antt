-- The exhaustion of a type with declared constructors, at a term.
use Rattle.std.specs.Prelude.{◌≡◌, ℕ, List, [], ◌∷◌, Option, Some, None, Result, Ok, Err, codes}
use Rattle.fp_term.specs.Types.{Typ, variable, applied, found_type, matched}
use Rattle.fp_term.specs.Terms.{Tm, replaced, retyped_term}
use Rattle.fp_term.specs.Variables.{variables_of}
use Rattle.fp_kernel.specs.Definitions.{Def}
use Rattle.fp_kernel.specs.Theorems.{Theorem}
use Rattle.fp_theory.specs.State.{State, found_theorem}
use Rattle.fp_constructors.specs.Needed.{exhaust_name}
use Rattle.fp_values.specs.Shapes.{names_of}
use Rattle.fp_values.specs.Answers.{States}
use Rattle.fp_values.specs.declared.fault.ValueFault.{ValueFault}
use Rattle.fp_values.specs.declared.fault.ValueFault.TheVariants.{NotValues, Lacks, NotProved, NoMemory}

-- the statement with the term of that type for its variable `x`, at these types for type variables
abbrev pub put_at : Option (List (List ℕ × Typ)) → Typ → Tm → Tm → Option Tm
put_at None s t p = None
put_at (Some pairs) s t p = Some (replaced ((codes "x", s, t) ∷ []) (retyped_term pairs p))

abbrev pub put_for : Option Typ → Typ → Tm → Tm → Option Tm
put_for None s t p = None
put_for (Some own) s t p = put_at (matched [] own s) s t p

-- the statement with the term of that type for its variable `x`, where it has that variable at a type of which this is an instance
abbrev pub put : Tm → Typ → Tm → Option Tm
put p s t = put_for (found_type (codes "x") (variables_of p)) s t p

-- the name of the theorem of a type's exhaustion
abbrev pub exhaust_of : Typ → List ℕ
exhaust_of (variable name) = []
exhaust_of (applied name args) = exhaust_name name

abbrev pub IsPut : List Def → Option Tm → Theorem → Type 0
IsPut defs None th = ⊥
IsPut defs (Some t) th = States defs t th

-- the theorem is the found one at the term
abbrev pub IsFoundAt : List Def → Typ → Tm → Option Theorem → Theorem → Type 0
IsFoundAt defs s t None th = ⊥
IsFoundAt defs s t (Some found) th = IsPut defs (put found.concl s t) th

-- what is answered by the theorem of that name
abbrev pub NamedAnswer : State → List ℕ → Typ → Tm → Result Theorem ValueFault → Type 0
NamedAnswer state name s t (Ok th) = IsFoundAt state.defs s t (found_theorem name state.named) th
NamedAnswer state name s t (Err NotValues) = ⊥
NamedAnswer state name s t (Err (Lacks lacking)) = (lacking ≡ name) × (found_theorem name state.named ≡ None)
NamedAnswer state name s t (Err NotProved) = Unit {0}
NamedAnswer state name s t (Err NoMemory) = Unit {0}

abbrev pub ExhaustionAnswer : State → Typ → Tm → Result Theorem ValueFault → Type 0
ExhaustionAnswer state s t (Ok th) = IsFoundAt state.defs s t (found_theorem (exhaust_of s) state.named) th
ExhaustionAnswer state s t (Err NotValues) = names_of state.types s ≡ []
ExhaustionAnswer state s t (Err (Lacks name)) = (name ≡ exhaust_of s) × (found_theorem (exhaust_of s) state.named ≡ None)
ExhaustionAnswer state s t (Err NotProved) = Unit {0}
ExhaustionAnswer state s t (Err NoMemory) = Unit {0}
