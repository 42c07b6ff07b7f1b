-- How a command's refusal comes from that of a step.
use Rattle.std.proofs.Common.{◌≡◌, ℕ, List, [], Some, None, Result, Ok, Err, IfOk, IfErr, refl}
use Rattle.fp_term.specs.Terms.{Tm}
use Rattle.fp_term.specs.Typing.{type_under}
use Rattle.fp_conclude.specs.Logic.{truth_type}
use Rattle.fp_raw.specs.Raws.{RawTm}
use Rattle.fp_kernel.specs.Theorems.{Theorem, plain}
use Rattle.fp_commands.specs.declared.command.Line.{Line}
use Rattle.fp_report.specs.declared.item.Item.{Item}
use Rattle.fp_report.specs.declared.reason.Naming.TheVariants as naming
use Rattle.fp_report.specs.declared.reason.Reason.TheVariants.{Of}
use Rattle.fp_theory.specs.State.{State, found_theorem}
use Rattle.fp_theory.specs.Defining.{named_taken, taken_by_definition, taken_by_type}
use Rattle.fp_command.specs.Outcome.{Elaborates, FailsTerm, FailsDefinition, RefusesDefinition, FailsType, RefusesType, FailsFormula, FailsProof, ExplainsProof, RefusesLemma}
use Rattle.fp_lines.specs.declared.fault.ProofFault.{ProofFault}
use Rattle.fp_lines.specs.Checks.{Checks}
use Rattle.fp_command.specs.Outcome as why
use Rattle.fp_command.specs.Answers.{Shows, Leaves, IsRefusal, IsNoFormula, At, ShowsLemma}
use Rattle.fp_command.specs.declared.fault.CommandFault.{CommandFault}
use Rattle.fp_command.specs.declared.fault.CommandFault.TheVariants.{Refused, NoMemory}

-- definitions
pub definition_taken : (s : State) (begins : ℕ) (name : List ℕ) (raw : RawTm) (n : List ℕ) (fault : CommandFault) → taken_by_definition s name ≡ Some n → IsRefusal begins (Of naming.NameTaken n) fault →
    Leaves s s (RefusesDefinition s begins name raw) fault
definition_taken s begins name raw n (Refused r) taken is = (rw (is.0, is.1) (why.RefusesDefinition.name_taken n taken), rw is.1 tt, refl)
definition_taken s begins name raw n NoMemory taken is = absurd is

pub definition_untyped : (s : State) (begins : ℕ) (name : List ℕ) (raw : RawTm) (fault : CommandFault) → taken_by_definition s name ≡ None → Shows (FailsTerm s raw) fault →
    Leaves s s (RefusesDefinition s begins name raw) fault
definition_untyped s begins name raw (Refused r) free sh = (why.RefusesDefinition.untyped r.at r.reason free sh.0, sh.1, refl)
definition_untyped s begins name raw NoMemory free sh = tt

pub definition_refuses : (s t : State) (begins : ℕ) (name : List ℕ) (raw : RawTm) (body : Tm) (result : Result (List Item) CommandFault) → taken_by_definition s name ≡ None → Elaborates s raw (Ok body) →
    IfErr result (Leaves s t (At begins (FailsDefinition s name body))) → IfErr result (Leaves s t (RefusesDefinition s begins name raw))
definition_refuses s t begins name raw body (Ok items) free typed l = tt
definition_refuses s t begins name raw body (Err (Refused r)) free typed l = (rw l.0.0 (why.RefusesDefinition.undefined r.reason body free typed l.0.1), l.1, l.2)
definition_refuses s t begins name raw body (Err NoMemory) free typed l = tt

-- types
pub type_taken : (s : State) (begins : ℕ) (name abstract represent fact n : List ℕ) (fault : CommandFault) → taken_by_type s name abstract represent ≡ Some n → IsRefusal begins (Of naming.NameTaken n) fault →
    Leaves s s (At begins (RefusesType s name abstract represent fact)) fault
type_taken s begins name abstract represent fact n (Refused r) taken is = ((is.0, rw is.1 (why.RefusesType.name_taken n taken)), rw is.1 tt, refl)
type_taken s begins name abstract represent fact n NoMemory taken is = absurd is

pub type_without : (s : State) (begins : ℕ) (name abstract represent fact : List ℕ) (fault : CommandFault) → taken_by_type s name abstract represent ≡ None → found_theorem fact s.named ≡ None →
    IsRefusal begins (Of naming.NoSuchTheorem fact) fault → Leaves s s (At begins (RefusesType s name abstract represent fact)) fault
type_without s begins name abstract represent fact (Refused r) free none is = ((is.0, rw is.1 (why.RefusesType.no_theorem free none)), rw is.1 tt, refl)
type_without s begins name abstract represent fact NoMemory free none is = absurd is

pub type_refuses : (s t : State) (begins : ℕ) (name abstract represent fact : List ℕ) (inhabited : Theorem) (result : Result (List Item) CommandFault) → taken_by_type s name abstract represent ≡ None →
    found_theorem fact s.named ≡ Some inhabited → IfErr result (Leaves s t (At begins (FailsType s name abstract represent inhabited))) →
    IfErr result (Leaves s t (At begins (RefusesType s name abstract represent fact)))
type_refuses s t begins name abstract represent fact inhabited (Ok items) free found l = tt
type_refuses s t begins name abstract represent fact inhabited (Err (Refused r)) free found l = ((l.0.0, why.RefusesType.undefined r.reason inhabited free found l.0.1), l.1, l.2)
type_refuses s t begins name abstract represent fact inhabited (Err NoMemory) free found l = tt

-- lemmas
pub formula_untyped : (s : State) (begins : ℕ) (raw : RawTm) (fault : CommandFault) → Shows (FailsTerm s raw) fault → Shows (FailsFormula s begins raw) fault
formula_untyped s begins raw (Refused r) sh = (why.FailsFormula.untyped r.at r.reason sh.0, sh.1)
formula_untyped s begins raw NoMemory sh = tt

pub formula_judged : (s : State) (begins : ℕ) (raw : RawTm) (body : Tm) (result : Result Tm CommandFault) → Elaborates s raw (Ok body) → IfErr result (IsNoFormula begins body) →
    IfErr result (Shows (FailsFormula s begins raw))
formula_judged s begins raw body (Ok t) typed said = tt
formula_judged s begins raw body (Err (Refused r)) typed said = (rw (said.0, said.1) (why.FailsFormula.no_formula body typed said.2), rw said.1 tt)
formula_judged s begins raw body (Err NoMemory) typed said = tt

pub lemma_named : (s t : State) (name : List ℕ) (th : Theorem) (p : Tm) (result : Result (List Item) CommandFault) → th ≡ plain s.defs p → IfOk result (ShowsLemma s t name th) →
    IfOk result (ShowsLemma s t name (plain s.defs p))
lemma_named s t name th p (Ok items) e d = rw e at d
lemma_named s t name th p (Err fault) e d = tt

pub lemma_unproved : (s t : State) (begins : ℕ) (p : Tm) (lines : List Line) (result : Result (List Item) CommandFault) → IfErr result (λ fault. fault ≡ NoMemory) →
    IfErr result (Leaves s t (At begins (FailsProof s p lines)))
lemma_unproved s t begins p lines (Ok items) e = tt
lemma_unproved s t begins p lines (Err fault) e = rw e tt

pub proof_refused : (s : State) (begins : ℕ) (p : Tm) (lines : List Line) (fault : ProofFault) (told : CommandFault) → Checks s p lines (Err fault) →
    Shows (At begins (ExplainsProof fault)) told → Shows (At begins (FailsProof s p lines)) told
proof_refused s begins p lines fault (Refused r) proof sh = ((sh.0.0, (fault, proof, sh.0.1)), sh.1)
proof_refused s begins p lines fault NoMemory proof sh = tt

pub lemma_taken : (s : State) (begins : ℕ) (name : List ℕ) (raw : RawTm) (lines : List Line) (n : List ℕ) (fault : CommandFault) → named_taken s name ≡ Some n → IsRefusal begins (Of naming.NameTaken n) fault →
    Leaves s s (RefusesLemma s begins name raw lines) fault
lemma_taken s begins name raw lines n (Refused r) taken is = (rw (is.0, is.1) (why.RefusesLemma.name_taken n taken), rw is.1 tt, refl)
lemma_taken s begins name raw lines n NoMemory taken is = absurd is

pub lemma_unstated : (s : State) (begins : ℕ) (name : List ℕ) (raw : RawTm) (lines : List Line) (fault : CommandFault) → named_taken s name ≡ None → Shows (FailsFormula s begins raw) fault →
    Leaves s s (RefusesLemma s begins name raw lines) fault
lemma_unstated s begins name raw lines (Refused r) free sh = (why.RefusesLemma.no_statement r.at r.reason free sh.0, sh.1, refl)
lemma_unstated s begins name raw lines NoMemory free sh = tt

pub lemma_refuses : (s t : State) (begins : ℕ) (name : List ℕ) (raw : RawTm) (lines : List Line) (statement : Tm) (result : Result (List Item) CommandFault) → named_taken s name ≡ None →
    Elaborates s raw (Ok statement) → type_under [] statement ≡ Some truth_type → IfErr result (Leaves s t (At begins (FailsProof s statement lines))) →
    IfErr result (Leaves s t (RefusesLemma s begins name raw lines))
lemma_refuses s t begins name raw lines statement (Ok items) free typed formula l = tt
lemma_refuses s t begins name raw lines statement (Err (Refused r)) free typed formula l = (rw l.0.0 (why.RefusesLemma.unproved r.reason statement free typed formula l.0.1), l.1, l.2)
lemma_refuses s t begins name raw lines statement (Err NoMemory) free typed formula l = tt
