-- What the steps of a command give together.
use Rattle.std.proofs.Common.{◌≡◌, ◌∙◌, ℕ, List, [], ◌∷◌, ◌++◌, Some, None, Result, Ok, Err, IfOk, refl, ap, subst}
use Rattle.fp_command.specs.declared.fault.CommandFault.{CommandFault}
use Rattle.fp_term.specs.Terms.{Tm}
use Rattle.fp_term.specs.Typing.{type_under}
use Rattle.fp_conclude.specs.Logic.{truth_type}
use Rattle.fp_raw.specs.Raws.{RawTm}
use Rattle.fp_kernel.specs.Definitions.{Def, Within, whole}
use Rattle.fp_kernel.specs.Theorems.{Theorem, IsTheorem, plain}
use Rattle.fp_kernel.specs.Conservative.{IsConservative}
use Rattle.fp_commands.specs.declared.command.Line.{Line}
use Rattle.fp_report.specs.declared.item.Item.{Item}
use Rattle.fp_theory.specs.State.{State, found_theorem, with_theorem, IsNoted}
use Rattle.fp_theory.specs.Defining.{def_name, abs_rep_name, rep_abs_name, named_taken, taken_by_definition, taken_by_type}
use Rattle.fp_command.specs.Outcome.{stated, Elaborates, AcceptsDefinition, AcceptsType, AcceptsLemma, IsProved, AreProved}
use Rattle.fp_lines.specs.Checks.{Checks}
use Rattle.fp_command.specs.Answers.{ShowsDefinition, ShowsType, ShowsLemma}
use Rattle.fp_command.proofs.Naming.{found_last, found_still, free_still, names_apart}

-- a theorem over the definitions, without hypotheses, can be named
noted_plain : (defs : List Def) (th : Theorem) (p : Tm) → th ≡ plain defs p → IsNoted defs th
noted_plain defs th p e = rw e (record { hyps = refl; promises = refl; within = whole })

-- a named theorem is proved
proved_by : (t : State) (name : List ℕ) (th : Theorem) → found_theorem name t.named ≡ Some th → IsNoted t.defs th → IsTheorem th → IsConservative th.defs → IsProved t name (stated th.concl)
proved_by t name th found noted derived conservative = record {
  theorem = th;
  found = found;
  statement = refl;
  noted = noted;
  derived = derived;
  conservative = conservative;
}

pub definition_accepted : (s t : State) (name : List ℕ) (raw : RawTm) (body : Tm) (items : List Item) → taken_by_definition s name ≡ None → Elaborates s raw (Ok body) →
    ShowsDefinition s t name body items → AcceptsDefinition s name raw items t
definition_accepted s t name raw body items free typed d = record {
  body = body;
  theorem = d.theorem;
  free = free;
  typed = typed;
  defines = d.defines;
  shown = d.shown;
}

pub definition_proved : (s t : State) (name : List ℕ) (body : Tm) (items : List Item) → ShowsDefinition s t name body items → AreProved t items
definition_proved s t name body items d =
    let th = d.theorem in
    let found = found_last (def_name name) th s.named d.defines.fresh in
    rw d.shown
    (proved_by t (def_name name) th (ap (λ u. found_theorem (def_name name) u.named) d.defines.state ∙ found) (noted_plain t.defs th _ d.defines.defines.theorem) d.derived d.conservative, tt)

pub type_accepted : (s t : State) (name abstract represent fact : List ℕ) (inhabited : Theorem) (items : List Item) → taken_by_type s name abstract represent ≡ None →
    found_theorem fact s.named ≡ Some inhabited → ShowsType s t name abstract represent inhabited items → AcceptsType s name abstract represent fact items t
type_accepted s t name abstract represent fact inhabited items free found d = record {
  inhabited = inhabited;
  first = d.first;
  second = d.second;
  free = free;
  found = found;
  defines = d.defines;
  shown = d.shown;
}

pub type_proved : (s t : State) (name abstract represent : List ℕ) (inhabited : Theorem) (items : List Item) → ShowsType s t name abstract represent inhabited items → AreProved t items
type_proved s t name abstract represent inhabited items d =
    let a = d.first in
    let b = d.second in
    let an = abs_rep_name name in
    let bn = rep_abs_name name in
    let middle = s.named ++ (an, a) ∷ [] in
    let first = found_still an a middle ((bn, b) ∷ []) (found_last an a s.named d.defines.fresh_first) in
    let second = found_last bn b middle (free_still bn an a s.named (names_apart name) d.defines.fresh_second) in
    rw d.shown (
      proved_by t an a (ap (λ u. found_theorem an u.named) d.defines.state ∙ first) (noted_plain t.defs a _ d.defines.defines.first_theorem) d.derived.0 d.conservative.0,
      (proved_by t bn b (ap (λ u. found_theorem bn u.named) d.defines.state ∙ second) (noted_plain t.defs b _ d.defines.defines.second_theorem) d.derived.1 d.conservative.1, tt),
    )

pub lemma_accepted : (s t : State) (name : List ℕ) (raw : RawTm) (lines : List Line) (statement : Tm) (items : List Item) → named_taken s name ≡ None →
    Elaborates s raw (Ok statement) → type_under [] statement ≡ Some truth_type → Checks s statement lines (Ok (plain s.defs statement)) → ShowsLemma s t name (plain s.defs statement) items →
    AcceptsLemma s name raw lines items t
lemma_accepted s t name raw lines statement items free typed formula proof d = record {
  statement = statement;
  free = free;
  typed = typed;
  formula = formula;
  proof = proof;
  derived = d.derived;
  named = d.named;
  shown = d.shown;
}

pub lemma_proved : (s t : State) (name : List ℕ) (statement : Tm) (items : List Item) → ShowsLemma s t name (plain s.defs statement) items → AreProved t items
lemma_proved s t name statement items d =
    let th = plain s.defs statement in
    let found = found_last name th s.named d.free in
    rw (d.shown, d.named) (proved_by (with_theorem name th s) name th found (noted_plain s.defs th statement refl) d.derived d.conservative, tt)

-- the same of whatever a step answers
pub definition_accepts : (s t : State) (name : List ℕ) (raw : RawTm) (body : Tm) (result : Result (List Item) CommandFault) → taken_by_definition s name ≡ None → Elaborates s raw (Ok body) →
    IfOk result (ShowsDefinition s t name body) → IfOk result (λ items. AcceptsDefinition s name raw items t)
definition_accepts s t name raw body (Ok items) free typed d = definition_accepted s t name raw body items free typed d
definition_accepts s t name raw body (Err fault) free typed d = tt

pub definition_proves : (s t : State) (name : List ℕ) (body : Tm) (result : Result (List Item) CommandFault) → IfOk result (ShowsDefinition s t name body) → IfOk result (AreProved t)
definition_proves s t name body (Ok items) d = definition_proved s t name body items d
definition_proves s t name body (Err fault) d = tt

pub type_accepts : (s t : State) (name abstract represent fact : List ℕ) (inhabited : Theorem) (result : Result (List Item) CommandFault) → taken_by_type s name abstract represent ≡ None →
    found_theorem fact s.named ≡ Some inhabited → IfOk result (ShowsType s t name abstract represent inhabited) → IfOk result (λ items. AcceptsType s name abstract represent fact items t)
type_accepts s t name abstract represent fact inhabited (Ok items) free found d = type_accepted s t name abstract represent fact inhabited items free found d
type_accepts s t name abstract represent fact inhabited (Err fault) free found d = tt

pub type_proves : (s t : State) (name abstract represent : List ℕ) (inhabited : Theorem) (result : Result (List Item) CommandFault) → IfOk result (ShowsType s t name abstract represent inhabited) → IfOk result (AreProved t)
type_proves s t name abstract represent inhabited (Ok items) d = type_proved s t name abstract represent inhabited items d
type_proves s t name abstract represent inhabited (Err fault) d = tt

pub lemma_accepts : (s t : State) (name : List ℕ) (raw : RawTm) (lines : List Line) (statement : Tm) (result : Result (List Item) CommandFault) → named_taken s name ≡ None →
    Elaborates s raw (Ok statement) → type_under [] statement ≡ Some truth_type → IfOk result (λ _. Checks s statement lines (Ok (plain s.defs statement))) →
    IfOk result (ShowsLemma s t name (plain s.defs statement)) → IfOk result (λ items. AcceptsLemma s name raw lines items t)
lemma_accepts s t name raw lines statement (Ok items) free typed formula proof d = lemma_accepted s t name raw lines statement items free typed formula proof d
lemma_accepts s t name raw lines statement (Err fault) free typed formula proof d = tt

-- the lines prove the theorem that is named
pub lemma_checked : (s : State) (lines : List Line) (statement : Tm) (th : Theorem) (result : Result (List Item) CommandFault) → th ≡ plain s.defs statement →
    Checks s statement lines (Ok th) → IfOk result (λ _. Checks s statement lines (Ok (plain s.defs statement)))
lemma_checked s lines statement th (Ok items) e proof = subst (λ (u : Theorem). Checks s statement lines (Ok u)) e proof
lemma_checked s lines statement th (Err fault) e proof = tt

pub lemma_proves : (s t : State) (name : List ℕ) (statement : Tm) (result : Result (List Item) CommandFault) → IfOk result (ShowsLemma s t name (plain s.defs statement)) → IfOk result (AreProved t)
lemma_proves s t name statement (Ok items) d = lemma_proved s t name statement items d
lemma_proves s t name statement (Err fault) d = tt

pub plain_within : (defs : List Def) (th : Theorem) (p : Tm) → th ≡ plain defs p → Within th.defs defs
plain_within defs th p e = rw e whole

pub elaborates_same : (s : State) (raw : RawTm) (body : Tm) (result : Result Tm CommandFault) → Elaborates s raw (Ok body) → IfOk result (λ t. t ≡ body) → IfOk result (λ t. Elaborates s raw (Ok t))
elaborates_same s raw body (Ok t) typed same = rw same typed
elaborates_same s raw body (Err fault) typed same = tt
