-- What defining a constant and defining a type make of a theory, or why they are refused.
use Rattle.std.specs.Prelude.{◌≡◌, ℕ, List, ◌++◌, Option, None, codes}
use Rattle.fp_term.specs.Types.{Typ, found_type}
use Rattle.fp_term.specs.Terms.{Tm}
use Rattle.fp_term.specs.Signatures.{first_of}
use Rattle.fp_conclude.specs.Outcomes.{Outcome, unless, name_taken}
use Rattle.fp_kernel.specs.Definitions.{Def}
use Rattle.fp_kernel.specs.Start.{signature_of}
use Rattle.fp_kernel.specs.Theorems.{Theorem}
use Rattle.fp_kernel.specs.Defining.{taken, first_taken, defining, Defines, defining_type, DefinesType}
use Rattle.fp_theory.specs.State.{State, found_theorem, with_theorem, over}

-- the names of the theorems of a definition
abbrev pub def_name : List ℕ → List ℕ
def_name name = name ++ codes "_def"

abbrev pub abs_rep_name : List ℕ → List ℕ
abs_rep_name name = name ++ codes "_abs_rep"

abbrev pub rep_abs_name : List ℕ → List ℕ
rep_abs_name name = name ++ codes "_rep_abs"

-- the name, where it is that of a theorem
abbrev pub named_taken : State → List ℕ → Option (List ℕ)
named_taken state name = taken name (found_theorem name state.named)

-- the name that is in the way of a definition: the constant's or the theorem's
abbrev pub taken_by_definition : State → List ℕ → Option (List ℕ)
taken_by_definition state name = first_of (taken name (found_type name (signature_of state.defs).consts)) (named_taken state (def_name name))

abbrev pub defining_in : State → List ℕ → Tm → Outcome Typ
defining_in state name body = unless name_taken (taken_by_definition state name) (defining state.defs name body)

-- the constant is defined, and its theorem is named
pub record DefinesIn (old new : State) (name : List ℕ) (body : Tm) (th : Theorem) : Type 0 where
  pub fresh : found_theorem (def_name name) old.named ≡ None
  pub defines : Defines old.defs new.defs name body th
  pub state : new ≡ with_theorem (def_name name) th (over new.defs old)

-- the name that is in the way of a new type: its own, that of one of its constants or of one of its theorems
abbrev pub theorems_taken : State → List ℕ → Option (List ℕ)
theorems_taken state name = first_of (named_taken state (abs_rep_name name)) (named_taken state (rep_abs_name name))

abbrev pub taken_by_type : State → List ℕ → List ℕ → List ℕ → Option (List ℕ)
taken_by_type state name abstract represent = first_of (first_taken (signature_of state.defs) name abstract represent) (theorems_taken state name)

abbrev pub defining_type_in : State → List ℕ → List ℕ → List ℕ → Theorem → Outcome Def
defining_type_in state name abstract represent th = unless name_taken (taken_by_type state name abstract represent) (defining_type state.defs name abstract represent th)

-- the type is defined, and its theorems are named
pub record DefinesTypeIn (old new : State) (name abstract represent : List ℕ) (inhabited first second : Theorem) : Type 0 where
  pub fresh_first : found_theorem (abs_rep_name name) old.named ≡ None
  pub fresh_second : found_theorem (rep_abs_name name) old.named ≡ None
  pub defines : DefinesType old.defs new.defs name abstract represent inhabited first second
  pub state : new ≡ with_theorem (rep_abs_name name) second (with_theorem (abs_rep_name name) first (over new.defs old))
