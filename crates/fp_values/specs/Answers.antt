-- What is answered where the equation of two values, or the exhaustion of a type, is asked for.
use Rattle.std.specs.Prelude.{◌≡◌, ℕ, List, Option, Some, None, Result, Ok, Err}
use Rattle.fp_term.specs.Types.{Typ}
use Rattle.fp_term.specs.Terms.{Tm}
use Rattle.fp_kernel.specs.Definitions.{Def, Within}
use Rattle.fp_kernel.specs.Theorems.{Theorem, plain}
use Rattle.fp_theory.specs.State.{State, found_theorem}
use Rattle.fp_values.specs.Values.{common_type, equality_of, theorem_name}
use Rattle.fp_proof.specs.declared.stop.Stop.{Stop}
use Rattle.fp_proof.specs.declared.stop.Stop.TheVariants as stop
use Rattle.fp_proof.specs.declared.stop.Stop.TheVariants.{Stuck}
use Rattle.fp_values.specs.declared.fault.ValueFault.{ValueFault}
use Rattle.fp_values.specs.declared.fault.ValueFault.TheVariants.{NotValues, Lacks, NotProved, NoMemory}

-- the theorem states the term, without hypotheses and promises, over a part of the definitions
pub record States (defs : List Def) (t : Tm) (th : Theorem) : Type 0 where
  pub within : Within th.defs defs
  pub is : th ≡ plain th.defs t

-- the name, where it is asked for and there is no theorem of it
abbrev pub without : Option Theorem → List ℕ → Option (List ℕ)
without None name = Some name
without (Some th) name = None

abbrev pub missing : List (List ℕ × Theorem) → Option (List ℕ) → Option (List ℕ)
missing named None = None
missing named (Some name) = without (found_theorem name named) name

-- what is answered for two values of the type
abbrev pub AnswerAt : State → Typ → Tm → Tm → Result Theorem ValueFault → Type 0
AnswerAt state s a b (Ok th) = States state.defs (equality_of s a b) th × (missing state.named (theorem_name state.types s a b) ≡ None)
AnswerAt state s a b (Err NotValues) = ⊥
AnswerAt state s a b (Err (Lacks name)) = missing state.named (theorem_name state.types s a b) ≡ Some name
AnswerAt state s a b (Err NotProved) = missing state.named (theorem_name state.types s a b) ≡ None
AnswerAt state s a b (Err NoMemory) = Unit {0}

-- what is answered, where the two are values of one type and where they aren't
abbrev pub AnswerFor : State → Tm → Tm → Option Typ → Result Theorem ValueFault → Type 0
AnswerFor state a b None (Ok th) = ⊥
AnswerFor state a b None (Err NotValues) = Unit {0}
AnswerFor state a b None (Err (Lacks name)) = ⊥
AnswerFor state a b None (Err NotProved) = ⊥
AnswerFor state a b None (Err NoMemory) = Unit {0}
AnswerFor state a b (Some s) result = AnswerAt state s a b result

abbrev pub EqualityAnswer : State → Tm → Tm → Result Theorem ValueFault → Type 0
EqualityAnswer state a b result = AnswerFor state a b (common_type state.types a b) result

-- that fault, or want of memory
abbrev pub IsLack : List ℕ → ValueFault → Type 0
IsLack name NotValues = ⊥
IsLack name (Lacks lacking) = lacking ≡ name
IsLack name NotProved = ⊥
IsLack name NoMemory = Unit {0}

-- the same theorem, or the fault for what stopped
abbrev pub IsAnswer : Result Theorem Stop → Result Theorem ValueFault → Type 0
IsAnswer (Ok th) result = result ≡ Ok th
IsAnswer (Err Stuck) result = result ≡ Err NotProved
IsAnswer (Err stop.NoMemory) result = result ≡ Err NoMemory
