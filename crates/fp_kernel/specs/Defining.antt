-- What defining a constant and defining a type give, or why they are refused.
use Rattle.std.specs.Prelude.{◌≡◌, ℕ, Bool, ◌&&◌, ◌==◌, if◌then◌else◌, List, [], ◌∷◌, length, Option, Some, None, Result, Ok, Err}
use Rattle.std.specs.Str.{bytes_eq}
use Rattle.fp_term.specs.Types.{Typ, found_type}
use Rattle.fp_term.specs.Terms.{Tm, constant, app}
use Rattle.fp_term.specs.Variables.{first_free_of, hidden_of, type_names_in, is_among}
use Rattle.fp_term.specs.Signatures.{first_of, arity_of}
use Rattle.fp_term.specs.declared.signature.Signature.{Signature}
use Rattle.fp_term.specs.declared.typing.TypeOfFault.{TypeOfFault}
use Rattle.fp_term.specs.declared.typing.TypeOfFault.TheVariants as typing
use Rattle.fp_conclude.specs.Logic.{equal}
use Rattle.fp_conclude.specs.Outcomes.{Outcome, gives, refused, followed_by, unless, with_part, name_taken, unknown_name, ill_typed_at, not_inhabited_form, not_closed, hidden_type}
use Rattle.fp_conclude.specs.Checks.{typed_over}
use Rattle.fp_kernel.specs.Definitions.{Def, new_constant, new_type}
use Rattle.fp_kernel.specs.Start.{signature_of, distinct_after, abs_rep, rep_abs}
use Rattle.fp_kernel.specs.Theorems.{Theorem, plain}
use Rattle.fp_kernel.specs.declared.fault.DefFault.{DefFault}
use Rattle.fp_kernel.specs.declared.fault.DefFault.TheVariants.{NameTaken, UnknownName, IllTyped, NotInhabitedForm, NotClosed, HiddenType, NoMemory}

-- the name, where it has an entry
abbrev pub taken : {A : Type 0} → List ℕ → Option A → Option (List ℕ)
taken name None = None
taken name (Some entry) = Some name

-- the type of the constant: its name is new, its body well typed and closed, and no type variable is hidden
abbrev pub defining : List Def → List ℕ → Tm → Outcome Typ
defining defs name body =
    unless name_taken (taken name (found_type name (signature_of defs).consts))
    (followed_by (typed_over (signature_of defs) body) (λ s.
    unless not_closed (first_free_of body)
    (unless hidden_type (hidden_of body s) (gives s))))

-- the constant is in front of the list, and the theorem is its equation
pub record Defines (old new : List Def) (name : List ℕ) (body : Tm) (th : Theorem) : Type 0 where
  pub type : Typ
  pub outcome : defining old name body ≡ gives type
  pub list : new ≡ new_constant name type body ∷ old
  pub theorem : th ≡ plain new (equal type (constant name type) body)

-- the first of the names of a new type and of its constants that is there already, or is there twice
abbrev pub first_taken : Signature → List ℕ → List ℕ → List ℕ → Option (List ℕ)
first_taken signature name abstract represent =
    first_of (taken name (arity_of name signature.types))
    (first_of (taken abstract (found_type abstract signature.consts))
    (if bytes_eq abstract represent then Some represent else taken represent (found_type represent signature.consts)))

-- `P` and `t`, of a theorem `P t` without hypotheses and promises
abbrev pub application_parts : Tm → Option (Tm × Tm)
application_parts (app p t) = Some (p, t)
application_parts _ = None

abbrev pub is_unconditional : Theorem → Bool
is_unconditional th = (length th.hyps == 0) && (length th.promises == 0)

abbrev pub inhabited_parts : Theorem → Option (Tm × Tm)
inhabited_parts th = if is_unconditional th then application_parts th.concl else None

-- the new type that the theorem gives
abbrev pub defining_type : List Def → List ℕ → List ℕ → List ℕ → Theorem → Outcome Def
defining_type defs name abstract represent th =
    unless name_taken (first_taken (signature_of defs) name abstract represent)
    (with_part not_inhabited_form (inhabited_parts th) (λ p.
    unless not_closed (first_free_of p.0)
    (gives (new_type name (distinct_after [] (type_names_in p.0)) p.0 p.1 abstract represent))))

-- the type is in front of the list, and the theorems are `abs (rep a) = a` and `P r = (rep (abs r) = r)`
pub record DefinesType (old new : List Def) (name abstract represent : List ℕ) (inhabited first second : Theorem) : Type 0 where
  pub params : List (List ℕ)
  pub predicate : Tm
  pub inhabitant : Tm
  pub outcome : defining_type old name abstract represent inhabited ≡ gives (new_type name params predicate inhabitant abstract represent)
  pub list : new ≡ new_type name params predicate inhabitant abstract represent ∷ old
  pub first_theorem : first ≡ plain new (abs_rep name params predicate abstract represent)
  pub second_theorem : second ≡ plain new (rep_abs name params predicate abstract represent)

-- the fault is the refusal, or want of memory
abbrev pub FaultIs : {A : Type 0} → DefFault → Outcome A → Type 0
FaultIs (NameTaken name) o = o ≡ refused (name_taken name)
FaultIs (UnknownName name) o = o ≡ refused (unknown_name name)
FaultIs (IllTyped place) o = o ≡ refused (ill_typed_at place)
FaultIs NotInhabitedForm o = o ≡ refused not_inhabited_form
FaultIs (NotClosed name) o = o ≡ refused (not_closed name)
FaultIs (HiddenType name) o = o ≡ refused (hidden_type name)
FaultIs NoMemory o = Unit {0}

-- nothing but memory was wanting
abbrev pub MadeUnlessMemory : {A : Type 0} → Result A DefFault → Type 0
MadeUnlessMemory (Ok made) = Unit {0}
MadeUnlessMemory (Err fault) = fault ≡ NoMemory

-- the same fault
abbrev pub SameTyping : TypeOfFault → DefFault → Type 0
SameTyping (typing.IllTyped place) fault = fault ≡ IllTyped place
SameTyping typing.NoMemory fault = fault ≡ NoMemory
