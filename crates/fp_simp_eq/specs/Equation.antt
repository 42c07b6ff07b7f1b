-- The equation of a term with what the simplifier answers for it.
use Rattle.std.specs.Prelude.{◌≡◌, List, [], Result, Ok, Err}
use Rattle.fp_term.specs.Types.{Typ}
use Rattle.fp_term.specs.Terms.{Tm}
use Rattle.fp_conclude.specs.declared.fault.RuleFault.{RuleFault}
use Rattle.fp_conclude.specs.Logic.{equal}
use Rattle.fp_conclude.specs.Checks.{typed_over}
use Rattle.fp_conclude.specs.Outcomes.{Outcome, gives, FaultIs}
use Rattle.fp_conclude.specs.Rules.{refl_of}
use Rattle.fp_kernel.specs.Definitions.{Def}
use Rattle.fp_kernel.specs.Start.{signature_of}
use Rattle.fp_kernel.specs.Theorems.{Theorem, plain, stands}
use Rattle.fp_rewriting.specs.declared.rule.Rule.{Rule}
use Rattle.fp_rewriting.specs.Settling.{Question}
use Rattle.fp_simp.specs.declared.simped.Simped.{Simped}
use Rattle.fp_simp.specs.Tasks.{IsAnswer}

-- what is asked of the simplifier: no guards, and the fuel and the room of a line
abbrev pub asked_alone : List Rule → Tm → Question
asked_alone rules t = record { rules = rules; guards = []; fuel = 1000; room = 20000; goal = t }

-- `t = t`, or its refusal
abbrev pub reflexive : List Def → Tm → Outcome Theorem
reflexive defs t = stands defs [] [] (refl_of (signature_of defs) t)

-- over just these definitions, without hypotheses and promises, the two terms are equal, at the first one's type
pub record IsEquationOf (defs : List Def) (t u : Tm) (th : Theorem) : Type 0 where
  pub type : Typ
  pub typed : typed_over (signature_of defs) t ≡ gives type
  pub is : th ≡ plain defs (equal type t u)

abbrev pub IsReflexive : List Def → Tm → Theorem → Type 0
IsReflexive defs t th = IsEquationOf defs t t th

-- and the second term is what the simplifier answers for the first by these rules
pub record IsSimplification (defs : List Def) (rules : List Rule) (t : Tm) (th : Theorem) : Type 0 where
  pub simped : Simped
  pub answer : IsAnswer (asked_alone rules t) simped
  pub equation : IsEquationOf defs t simped.term th

-- that equation, or the refusal of `t = t`
abbrev pub EquatesSimplified : List Def → List Rule → Tm → Result Theorem RuleFault → Type 0
EquatesSimplified defs rules t (Ok th) = IsSimplification defs rules t th
EquatesSimplified defs rules t (Err f) = FaultIs f (reflexive defs t)
