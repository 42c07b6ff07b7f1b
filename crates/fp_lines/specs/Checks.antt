-- What comes of a proof: the statement, or its first bad line, or what its last line gives.
use Rattle.std.specs.Prelude.{◌≡◌, ℕ, ◌+◌, List, [], ◌∷◌, ◌++◌, Some, None, Result, Ok, Err}
use Rattle.fp_term.specs.Types.{Typ}
use Rattle.fp_term.specs.Terms.{Tm}
use Rattle.fp_term.specs.Variables.{variables_of}
use Rattle.fp_term.specs.declared.statement.Statement.{Statement}
use Rattle.fp_kernel.specs.Definitions.{Def}
use Rattle.fp_kernel.specs.Derivability.{IsFormula, AreFormulas}
use Rattle.fp_kernel.specs.Start.{signature_of}
use Rattle.fp_kernel.specs.Theorems.{Theorem}
use Rattle.fp_commands.specs.declared.command.Line.{Line}
use Rattle.fp_theory.specs.State.{State}
use Rattle.fp_lines.specs.declared.fault.ProofFault.{ProofFault}
use Rattle.fp_lines.specs.declared.fault.ProofFault.TheVariants.{BadRuleName, BadLine, WrongEnd, NoMemory}
use Rattle.fp_lines.specs.declared.fault.LineFault.TheVariants.{Bad}
use Rattle.fp_lines.specs.declared.cause.LineCause.{LineCause}
use Rattle.fp_line_rules.specs.declared.rule.Rule.{Rule}
use Rattle.fp_line_rules.specs.Table.{rule_named}
use Rattle.fp_lines.specs.Read.{Scene}
use Rattle.fp_lines.specs.Lines.{LineBy}

-- the line gives the theorem, or it has the cause
pub record Gives (s : Scene) (l : Line) (th : Theorem) : Type 0 where
  pub rule : Rule
  pub named : rule_named l.name ≡ Some rule
  pub line : LineBy s rule l.args (Ok th)

pub record IsBad (s : Scene) (l : Line) (cause : LineCause) : Type 0 where
  pub rule : Rule
  pub named : rule_named l.name ≡ Some rule
  pub line : LineBy s rule l.args (Err (Bad cause))

-- what is wrong with the line of that number
abbrev pub LineFails : Scene → Line → ℕ → ProofFault → Type 0
LineFails s l n (BadRuleName line) = (line ≡ n) × (rule_named l.name ≡ None)
LineFails s l n (BadLine line cause) = (line ≡ n) × IsBad s l cause
LineFails s l n (WrongEnd end) = ⊥
LineFails s l n NoMemory = Unit {0}

-- it is the statement without hypotheses
pub record IsEnd (statement : Tm) (th : Theorem) : Type 0 where
  pub hyps : th.hyps ≡ []
  pub concl : th.concl ≡ statement

-- what is told of another theorem
pub record IsOf (th : Theorem) (s : Statement) : Type 0 where
  pub hyps : s.hyps ≡ th.hyps
  pub concl : s.concl ≡ th.concl

abbrev pub EndFails : Theorem → ProofFault → Type 0
EndFails th (BadRuleName line) = ⊥
EndFails th (BadLine line cause) = ⊥
EndFails th (WrongEnd None) = ⊥
EndFails th (WrongEnd (Some s)) = IsOf th s
EndFails th NoMemory = Unit {0}

abbrev pub Proof : Type 0
Proof = Result Theorem ProofFault

-- what comes of further lines, of which the first has that number, behind the theorems of those before
pub data Goes (defs : List Def) (named : List (List ℕ × Theorem)) (simps : List (List ℕ)) (given : List (List ℕ × Typ)) (statement : Tm) : List Theorem → ℕ → List Line → Proof → Type 0 where
  next : {before : List Theorem} {n : ℕ} {l : Line} {lines : List Line} {r : Proof} (th : Theorem) →
      Gives (record { defs = defs; named = named; simps = simps; given = given; before = before }) l th → Goes defs named simps given statement (before ++ th ∷ []) (n + 1) lines r →
      Goes defs named simps given statement before n (l ∷ lines) r
  fails : {before : List Theorem} {n : ℕ} {l : Line} {lines : List Line} {f : ProofFault} →
      LineFails (record { defs = defs; named = named; simps = simps; given = given; before = before }) l n f → Goes defs named simps given statement before n (l ∷ lines) (Err f)
  ends : {n : ℕ} (before : List Theorem) (th : Theorem) → IsEnd statement th → Goes defs named simps given statement (before ++ th ∷ []) n [] (Ok th)
  ends_otherwise : {n : ℕ} {s : Statement} (before : List Theorem) (th : Theorem) → (IsEnd statement th → ⊥) → IsOf th s →
      Goes defs named simps given statement (before ++ th ∷ []) n [] (Err (WrongEnd (Some s)))
  has_no_lines : {n : ℕ} → Goes defs named simps given statement [] n [] (Err (WrongEnd None))
  wanting : {before : List Theorem} {n : ℕ} {lines : List Line} → Goes defs named simps given statement before n lines (Err NoMemory)

-- what comes of the lines, over the free variables of the statement
abbrev pub Checks : State → Tm → List Line → Proof → Type 0
Checks state statement lines r = Goes state.defs state.named state.simps (variables_of statement) statement [] 1 lines r

-- whatever comes of the rest, comes of the whole
abbrev pub Leads : List Def → List (List ℕ × Theorem) → List (List ℕ) → List (List ℕ × Typ) → Tm → List Theorem → ℕ → List Line → List Line → Type 0
Leads defs named simps given statement before n rest lines = (r : Proof) → Goes defs named simps given statement before n rest r → Goes defs named simps given statement [] 1 lines r

-- the lines give these theorems
pub record Arrives (defs : List Def) (named : List (List ℕ × Theorem)) (simps : List (List ℕ)) (given : List (List ℕ × Typ)) (statement : Tm) (lines : List Line) (ths : List Theorem) : Type 0 where
  pub number : ℕ
  pub leads : Leads defs named simps given statement ths number [] lines

-- what is told consists of formulas
pub record AreShown (defs : List Def) (s : Statement) : Type 0 where
  pub hyps : AreFormulas (signature_of defs) s.hyps
  pub concl : IsFormula (signature_of defs) s.concl

abbrev pub FaultShown : List Def → ProofFault → Type 0
FaultShown defs (BadRuleName line) = Unit {0}
FaultShown defs (BadLine line cause) = Unit {0}
FaultShown defs (WrongEnd None) = Unit {0}
FaultShown defs (WrongEnd (Some s)) = AreShown defs s
FaultShown defs NoMemory = Unit {0}
