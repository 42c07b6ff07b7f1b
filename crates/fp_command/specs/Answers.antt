-- What the program answers of a command.
use Rattle.std.specs.Prelude.{◌≡◌, ℕ, List, [], ◌∷◌, Some, None}
use Rattle.fp_term.specs.Typing.{type_under}
use Rattle.fp_conclude.specs.Logic.{truth_type}
use Rattle.fp_report.specs.declared.reason.Kind.TheVariants as kind
use Rattle.fp_report.specs.declared.reason.Naming.TheVariants as naming
use Rattle.fp_report.specs.declared.reason.Reason.TheVariants.{Plain, Of}
use Rattle.fp_term.specs.Terms.{Tm}
use Rattle.fp_kernel.specs.Theorems.{Theorem, IsTheorem}
use Rattle.fp_kernel.specs.Conservative.{IsConservative}
use Rattle.fp_report.specs.declared.item.Item.{Item}
use Rattle.fp_report.specs.declared.item.Item.TheVariants as item
use Rattle.fp_report.specs.declared.reason.Reason.{Reason}
use Rattle.fp_report.specs.Reasons.{IsShownReason, IsShownEnd}
use Rattle.fp_lines.specs.declared.fault.ProofFault.{ProofFault}
use Rattle.fp_lines.specs.declared.fault.ProofFault.TheVariants as unproved
use Rattle.fp_theory.specs.declared.fault.RuleShapeFault.{RuleShapeFault}
use Rattle.fp_theory.specs.declared.fault.RuleShapeFault.TheVariants as shaping
use Rattle.fp_theory.specs.State.{State, with_theorem, found_theorem}
use Rattle.fp_theory.specs.Defining.{def_name, abs_rep_name, rep_abs_name, DefinesIn, DefinesTypeIn}
use Rattle.fp_command.specs.Outcome.{stated}
use Rattle.fp_command.specs.declared.fault.CommandFault.{CommandFault}
use Rattle.fp_command.specs.declared.fault.CommandFault.TheVariants.{Refused, NoMemory}

-- a refusal at a place and for a reason of which that holds, or want of memory
abbrev pub Tells : (ℕ → Reason → Type 0) → CommandFault → Type 0
Tells P (Refused r) = P r.at r.reason
Tells P NoMemory = Unit {0}

-- a refusal of which that holds, which can be printed
abbrev pub Shows : (ℕ → Reason → Type 0) → CommandFault → Type 0
Shows P fault = Tells (λ at reason. P at reason × IsShownReason reason) fault

-- a refusal of which that holds, which can be printed, and after which the state is as before
abbrev pub Leaves : {S : Type 0} → S → S → (ℕ → Reason → Type 0) → CommandFault → Type 0
Leaves s t P fault = Tells (λ at reason. P at reason × IsShownReason reason × (t ≡ s)) fault

-- exactly that refusal
abbrev pub IsRefusal : ℕ → Reason → CommandFault → Type 0
IsRefusal place why (Refused r) = (r.at ≡ place) × (r.reason ≡ why)
IsRefusal place why NoMemory = ⊥

-- at the command's first byte
abbrev pub At : ℕ → (Reason → Type 0) → ℕ → Reason → Type 0
At begins P at reason = (at ≡ begins) × P reason

-- a fault of a rule
abbrev pub ExplainsRule : RuleShapeFault → Reason → Type 0
ExplainsRule (shaping.NoSuchTheorem name) reason = reason ≡ Of naming.NoSuchTheorem name
ExplainsRule shaping.NotRuleShape reason = reason ≡ Plain kind.NotRuleShape
ExplainsRule shaping.NoMemory reason = ⊥

-- the constant is defined by the term, and its theorem shown
pub record ShowsDefinition (s t : State) (name : List ℕ) (body : Tm) (items : List Item) : Type 0 where
  pub theorem : Theorem
  pub defines : DefinesIn s t name body theorem
  pub derived : IsTheorem theorem
  pub conservative : IsConservative theorem.defs
  pub shown : items ≡ item.Definition (def_name name) (stated theorem.concl) ∷ []

-- the type is made from the theorem, and its theorems shown
pub record ShowsType (s t : State) (name abstract represent : List ℕ) (inhabited : Theorem) (items : List Item) : Type 0 where
  pub first : Theorem
  pub second : Theorem
  pub defines : DefinesTypeIn s t name abstract represent inhabited first second
  pub derived : IsTheorem first × IsTheorem second
  pub conservative : IsConservative first.defs × IsConservative second.defs
  pub shown : items ≡ item.Typedef (abs_rep_name name) (stated first.concl) ∷ item.Typedef (rep_abs_name name) (stated second.concl) ∷ []

-- the theorem is named and shown
pub record ShowsLemma (s t : State) (name : List ℕ) (theorem : Theorem) (items : List Item) : Type 0 where
  pub named : t ≡ with_theorem name theorem s
  pub free : found_theorem name s.named ≡ None
  pub derived : IsTheorem theorem
  pub conservative : IsConservative theorem.defs
  pub shown : items ≡ item.Theorem name (stated theorem.concl) ∷ []

-- the statement that a proof came to can be printed
abbrev pub IsShownProof : ProofFault → Type 0
IsShownProof (unproved.BadRuleName line) = Unit {0}
IsShownProof (unproved.BadLine line cause) = Unit {0}
IsShownProof (unproved.WrongEnd got) = IsShownEnd got
IsShownProof unproved.NoMemory = Unit {0}

-- the term isn't a formula, and that is told, or memory was wanting
abbrev pub IsNoFormula : ℕ → Tm → CommandFault → Type 0
IsNoFormula begins t (Refused r) = (r.at ≡ begins) × (r.reason ≡ Plain kind.NotBool) × (type_under [] t ≡ Some truth_type → ⊥)
IsNoFormula begins t NoMemory = Unit {0}
