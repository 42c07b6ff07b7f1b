-- What a rule gives, or why it gives nothing.
use Rattle.std.specs.Prelude.{◌≡◌, ℕ, List, Option, Some, None, Result, Ok, Err}
use Rattle.fp_term.specs.Terms.{Tm}
use Rattle.fp_term.specs.declared.typing.TypeOfFault.{TypeOfFault}
use Rattle.fp_term.specs.declared.typing.TypeOfFault.TheVariants as typing
use Rattle.fp_conclude.specs.declared.fault.RuleFault.{RuleFault}
use Rattle.fp_conclude.specs.declared.fault.RuleFault.TheVariants.{UnknownName, IllTyped, NotEquation, NotRedex, NotBool, Shape, Differ, FreeInHyps, NoSuchPromise, PromiseOrder, NoMemory}

-- of rules, in the order in which they are tried; a result that is ill typed comes after `free_in_hyps`
pub data Refusal : Type 0 where
  unknown_name : List ℕ → Refusal
  ill_typed_at : List ℕ → Refusal
  not_equation : Refusal
  not_redex : Refusal
  not_bool : Refusal
  shape : Refusal
  differ : Tm → Tm → Refusal
  free_in_hyps : List ℕ → Refusal
  no_such_promise : ℕ → Refusal
  promise_order : ℕ → Refusal
  -- of definitions besides; the first comes before all others
  name_taken : List ℕ → Refusal
  not_inhabited_form : Refusal
  not_closed : List ℕ → Refusal
  hidden_type : List ℕ → Refusal

pub data Outcome (A : Type 0) : Type 0 where
  gives : A → Outcome A
  refused : Refusal → Outcome A

-- what follows from what was given
abbrev pub followed_by : {A B : Type 0} → Outcome A → (A → Outcome B) → Outcome B
followed_by (gives x) next = next x
followed_by (refused r) next = refused r

-- a refusal where there is something to name, else what comes after
abbrev pub unless : {A : Type 0} → (List ℕ → Refusal) → Option (List ℕ) → Outcome A → Outcome A
unless refusal None later = later
unless refusal (Some name) later = refused (refusal name)

-- what follows from a part, where there is one
abbrev pub with_part : {A B : Type 0} → Refusal → Option A → (A → Outcome B) → Outcome B
with_part refusal None next = refused refusal
with_part refusal (Some x) next = next x

-- the fault is the refusal, or want of memory
abbrev pub FaultIs : {A : Type 0} → RuleFault → Outcome A → Type 0
FaultIs (UnknownName name) o = o ≡ refused (unknown_name name)
FaultIs (IllTyped place) o = o ≡ refused (ill_typed_at place)
FaultIs NotEquation o = o ≡ refused not_equation
FaultIs NotRedex o = o ≡ refused not_redex
FaultIs NotBool o = o ≡ refused not_bool
FaultIs Shape o = o ≡ refused shape
FaultIs (Differ t u) o = o ≡ refused (differ t u)
FaultIs (FreeInHyps name) o = o ≡ refused (free_in_hyps name)
FaultIs (NoSuchPromise number) o = o ≡ refused (no_such_promise number)
FaultIs (PromiseOrder number) o = o ≡ refused (promise_order number)
FaultIs NoMemory o = Unit {0}

-- the answer is what the rule gives, but for want of memory
abbrev pub Answers : {A : Type 0} → Result A RuleFault → Outcome A → Type 0
Answers (Ok x) o = o ≡ gives x
Answers (Err fault) o = FaultIs fault o

-- the same fault
abbrev pub SameTyping : TypeOfFault → RuleFault → Type 0
SameTyping (typing.IllTyped place) fault = fault ≡ IllTyped place
SameTyping typing.NoMemory fault = fault ≡ NoMemory
