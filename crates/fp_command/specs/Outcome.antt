-- What a command makes of a state and shows, or why it is refused.
use Rattle.std.specs.Prelude.{◌≡◌, ℕ, Bool, true, false, not, ◌&&◌, ◌||◌, List, [], ◌∷◌, Option, Some, None, is_some, Result, Ok, Err}
use Rattle.std.specs.Str.{bytes_eq}
use Rattle.fp_term.specs.Types.{Typ}
use Rattle.fp_term.specs.Terms.{Tm, is_open}
use Rattle.fp_term.specs.Typing.{type_under, function_type}
use Rattle.fp_term.specs.Variables.{hidden_of}
use Rattle.fp_term.specs.declared.statement.Statement.{Statement}
use Rattle.fp_conclude.specs.Logic.{truth_type}
use Rattle.fp_kernel.specs.Start.{signature_of}
use Rattle.fp_kernel.specs.Defining.{FaultIs}
use Rattle.fp_kernel.specs.Conservative.{IsConservative}
use Rattle.fp_kernel.specs.Theorems.{Theorem, IsTheorem, plain}
use Rattle.fp_kernel.specs.declared.fault.DefFault.{DefFault}
use Rattle.fp_kernel.specs.declared.fault.DefFault.TheVariants as defining
use Rattle.fp_raw.specs.Raws.{RawTm, RawTyp}
use Rattle.fp_constrain.specs.Declarations.{declarations}
use Rattle.fp_constrain.specs.Subterms.{plain as plain_type}
use Rattle.fp_infer.specs.Names.{Found, wrong_in, wrong_in_type, earliest}
use Rattle.fp_infer.specs.declared.names.Search.{Search}
use Rattle.fp_infer.specs.declared.names.Search.TheVariants.{Unknown, Arity}
use Rattle.fp_infer.specs.Elaborated.{Answers}
use Rattle.fp_infer.specs.declared.fault.InferFault.{InferFault}
use Rattle.fp_infer.specs.declared.fault.InferFault.TheVariants as typing
use Rattle.fp_lines.specs.declared.fault.ProofFault.{ProofFault}
use Rattle.fp_lines.specs.declared.fault.ProofFault.TheVariants as proving
use Rattle.fp_lines.specs.declared.cause.LineCause.{LineCause}
use Rattle.fp_lines.specs.Causes as lines
use Rattle.fp_lines.specs.Checks.{Checks}
use Rattle.fp_commands.specs.declared.command.Body.{Body}
use Rattle.fp_commands.specs.declared.command.Body.TheVariants as body
use Rattle.fp_commands.specs.declared.command.Command.{Command}
use Rattle.fp_commands.specs.declared.command.Line.{Line}
use Rattle.fp_report.specs.declared.item.Item.{Item}
use Rattle.fp_report.specs.declared.item.Item.TheVariants as item
use Rattle.fp_report.specs.declared.reason.Kind.TheVariants as kind
use Rattle.fp_report.specs.declared.reason.Naming.TheVariants as naming
use Rattle.fp_report.specs.declared.reason.Cause.{Cause}
use Rattle.fp_report.specs.declared.reason.Reason.{Reason}
use Rattle.fp_report.specs.declared.reason.Reason.TheVariants.{Plain, Of, BadRuleName, BadLine, WrongEnd}
use Rattle.fp_report.specs.Reasons.{cause_text}
use Rattle.fp_group.specs.declared.constructors.ConType.{ConType}
use Rattle.fp_constructors.specs.Answers.{unknown_of, other_of, AreConstructors}
use Rattle.fp_constructors.specs.Needed.{needed}
use Rattle.fp_data.specs.Lacking.{first_lacking}
use Rattle.fp_measure.specs.Sources.{natural, IsMeasure}
use Rattle.fp_measure.specs.declared.source.DeclKind.{DeclKind}
use Rattle.fp_measure.specs.declared.source.DeclKind.TheVariants as declared
use Rattle.fp_measure.specs.declared.source.Decl.{Decl}
use Rattle.fp_sources.specs.Sources.{Source, told_each}
use Rattle.fp_outcome.specs.declared.fault.FunFault.{FunFault}
use Rattle.fp_group_report.specs.Refusals.{Explains}
use Rattle.fp_fun.specs.Named as groups
use Rattle.fp_theory.specs.State.{State, found_theorem, with_theorem, with_simp, with_cong, with_type, IsNoted, IsRewriteRule, IsCongRule}
use Rattle.fp_theory.specs.Declaring.{IsNoRewriteRule, IsNoCongRule}
use Rattle.fp_theory.specs.Defining.{def_name, abs_rep_name, rep_abs_name, named_taken, taken_by_definition, taken_by_type, defining_in, DefinesIn, defining_type_in, DefinesTypeIn}

-- a formula by itself
abbrev pub stated : Tm → Statement
stated p = record { hyps = []; concl = p }

-- what the written term stands for in a state
abbrev pub Elaborates : State → RawTm → Result Tm InferFault → Type 0
Elaborates s raw result = Answers (signature_of s.defs) [] [] None raw result

-- Definitions.

pub record AcceptsDefinition (s : State) (name : List ℕ) (raw : RawTm) (items : List Item) (t : State) : Type 0 where
  pub body : Tm
  pub theorem : Theorem
  pub free : taken_by_definition s name ≡ None
  pub typed : Elaborates s raw (Ok body)
  pub defines : DefinesIn s t name body theorem
  pub shown : items ≡ item.Definition (def_name name) (stated theorem.concl) ∷ []

-- a fault of a term's names or types, at its place
abbrev pub ExplainsTerm : InferFault → ℕ → Reason → Type 0
ExplainsTerm (typing.UnknownName name p) at reason = (at ≡ p) × (reason ≡ Of naming.UnknownName name)
ExplainsTerm (typing.BadArity name p) at reason = (at ≡ p) × (reason ≡ Of naming.BadArity name)
ExplainsTerm (typing.Clash p) at reason = (at ≡ p) × (reason ≡ Plain kind.Clash)
ExplainsTerm (typing.TypeTooLarge p) at reason = (at ≡ p) × (reason ≡ Plain kind.TypeTooLarge)
ExplainsTerm typing.NoMemory at reason = ⊥

-- a fault of a definition
abbrev pub ExplainsDefinition : DefFault → Reason → Type 0
ExplainsDefinition (defining.NameTaken name) reason = reason ≡ Of naming.NameTaken name
ExplainsDefinition (defining.UnknownName name) reason = reason ≡ Of naming.UnknownName name
ExplainsDefinition (defining.IllTyped place) reason = reason ≡ Plain kind.Clash
ExplainsDefinition defining.NotInhabitedForm reason = reason ≡ Plain kind.NotInhabitedForm
ExplainsDefinition (defining.NotClosed name) reason = reason ≡ Of naming.NotClosed name
ExplainsDefinition (defining.HiddenType name) reason = reason ≡ Of naming.HiddenType name
ExplainsDefinition defining.NoMemory reason = ⊥

-- the written term's names or types are at fault
abbrev pub FailsTerm : State → RawTm → ℕ → Reason → Type 0
FailsTerm s raw at reason = (fault : InferFault) × Elaborates s raw (Err fault) × ExplainsTerm fault at reason

-- the constant can't be defined by the term
abbrev pub FailsDefinition : State → List ℕ → Tm → Reason → Type 0
FailsDefinition s name body reason = (fault : DefFault) × FaultIs fault (defining_in s name body) × ExplainsDefinition fault reason

pub data RefusesDefinition (s : State) (begins : ℕ) (name : List ℕ) (raw : RawTm) : ℕ → Reason → Type 0 where
  name_taken : (n : List ℕ) → taken_by_definition s name ≡ Some n → RefusesDefinition s begins name raw begins (Of naming.NameTaken n)
  untyped : (at : ℕ) (reason : Reason) → taken_by_definition s name ≡ None → FailsTerm s raw at reason → RefusesDefinition s begins name raw at reason
  undefined : (reason : Reason) (body : Tm) → taken_by_definition s name ≡ None → Elaborates s raw (Ok body) → FailsDefinition s name body reason →
      RefusesDefinition s begins name raw begins reason

-- New types.

pub record AcceptsType (s : State) (name abstract represent fact : List ℕ) (items : List Item) (t : State) : Type 0 where
  pub inhabited : Theorem
  pub first : Theorem
  pub second : Theorem
  pub free : taken_by_type s name abstract represent ≡ None
  pub found : found_theorem fact s.named ≡ Some inhabited
  pub defines : DefinesTypeIn s t name abstract represent inhabited first second
  pub shown : items ≡ item.Typedef (abs_rep_name name) (stated first.concl) ∷ item.Typedef (rep_abs_name name) (stated second.concl) ∷ []

-- the type can't be made from the theorem
abbrev pub FailsType : State → List ℕ → List ℕ → List ℕ → Theorem → Reason → Type 0
FailsType s name abstract represent inhabited reason =
    (fault : DefFault) × FaultIs fault (defining_type_in s name abstract represent inhabited) × ExplainsDefinition fault reason

pub data RefusesType (s : State) (name abstract represent fact : List ℕ) : Reason → Type 0 where
  name_taken : (n : List ℕ) → taken_by_type s name abstract represent ≡ Some n → RefusesType s name abstract represent fact (Of naming.NameTaken n)
  no_theorem : taken_by_type s name abstract represent ≡ None → found_theorem fact s.named ≡ None → RefusesType s name abstract represent fact (Of naming.NoSuchTheorem fact)
  undefined : (reason : Reason) (inhabited : Theorem) → taken_by_type s name abstract represent ≡ None → found_theorem fact s.named ≡ Some inhabited →
      FailsType s name abstract represent inhabited reason → RefusesType s name abstract represent fact reason

-- Lemmas.

pub record AcceptsLemma (s : State) (name : List ℕ) (raw : RawTm) (lines : List Line) (items : List Item) (t : State) : Type 0 where
  pub statement : Tm
  pub free : named_taken s name ≡ None
  pub typed : Elaborates s raw (Ok statement)
  pub formula : type_under [] statement ≡ Some truth_type
  pub proof : Checks s statement lines (Ok (plain s.defs statement))
  pub derived : IsTheorem (plain s.defs statement)
  pub named : t ≡ with_theorem name (plain s.defs statement) s
  pub shown : items ≡ item.Theorem name (stated statement) ∷ []

-- one cause, by its name
abbrev pub SameCause : LineCause → Cause → Type 0
SameCause cause shown = cause_text shown ≡ lines.cause_text cause

-- a fault of a proof
abbrev pub ExplainsProof : ProofFault → Reason → Type 0
ExplainsProof (proving.BadRuleName line) reason = reason ≡ BadRuleName line
ExplainsProof (proving.BadLine line cause) reason = (shown : Cause) × SameCause cause shown × (reason ≡ BadLine line shown)
ExplainsProof (proving.WrongEnd got) reason = reason ≡ WrongEnd got
ExplainsProof proving.NoMemory reason = ⊥

-- the written term is no formula
pub data FailsFormula (s : State) (begins : ℕ) (raw : RawTm) : ℕ → Reason → Type 0 where
  untyped : (at : ℕ) (reason : Reason) → FailsTerm s raw at reason → FailsFormula s begins raw at reason
  no_formula : (statement : Tm) → Elaborates s raw (Ok statement) → (type_under [] statement ≡ Some truth_type → ⊥) → FailsFormula s begins raw begins (Plain kind.NotBool)

-- the lines don't prove the statement
abbrev pub FailsProof : State → Tm → List Line → Reason → Type 0
FailsProof s statement lines reason = (fault : ProofFault) × Checks s statement lines (Err fault) × ExplainsProof fault reason

pub data RefusesLemma (s : State) (begins : ℕ) (name : List ℕ) (raw : RawTm) (lines : List Line) : ℕ → Reason → Type 0 where
  name_taken : (n : List ℕ) → named_taken s name ≡ Some n → RefusesLemma s begins name raw lines begins (Of naming.NameTaken n)
  no_statement : (at : ℕ) (reason : Reason) → named_taken s name ≡ None → FailsFormula s begins raw at reason → RefusesLemma s begins name raw lines at reason
  unproved : (reason : Reason) (statement : Tm) → named_taken s name ≡ None → Elaborates s raw (Ok statement) → type_under [] statement ≡ Some truth_type →
      FailsProof s statement lines reason → RefusesLemma s begins name raw lines begins reason

-- Rules.

pub record AcceptsSimp (s : State) (name : List ℕ) (items : List Item) (t : State) : Type 0 where
  pub rule : IsRewriteRule s.named name
  pub declared : t ≡ with_simp name s
  pub shown : items ≡ item.Simp name ∷ []

pub data RefusesSimp (s : State) (name : List ℕ) : Reason → Type 0 where
  no_theorem : found_theorem name s.named ≡ None → RefusesSimp s name (Of naming.NoSuchTheorem name)
  no_rule : IsNoRewriteRule s.named name → RefusesSimp s name (Plain kind.NotRuleShape)

pub record AcceptsCong (s : State) (name : List ℕ) (items : List Item) (t : State) : Type 0 where
  pub rule : IsCongRule s.named name
  pub declared : t ≡ with_cong name s
  pub shown : items ≡ item.Cong name ∷ []

pub data RefusesCong (s : State) (name : List ℕ) : Reason → Type 0 where
  no_theorem : found_theorem name s.named ≡ None → RefusesCong s name (Of naming.NoSuchTheorem name)
  no_rule : IsNoCongRule s.named name → RefusesCong s name (Plain kind.NotRuleShape)

-- Constructors.

-- are the constructors of the type of that name declared?
abbrev pub is_declared : List ConType → List ℕ → Bool
is_declared [] name = false
is_declared (type ∷ types) name = bytes_eq type.name name || is_declared types name

-- the type with its constructors
abbrev pub con_type : List ℕ → List (List ℕ) → ConType
con_type name cons = record { name = name; cons = cons }

pub record AcceptsConstructors (s : State) (type : ConType) (items : List Item) (t : State) : Type 0 where
  pub free : is_declared s.types type.name ≡ false
  pub fit : AreConstructors (signature_of s.defs) type
  pub known : first_lacking s.named (needed (signature_of s.defs) type) ≡ None
  pub declared : t ≡ with_type type s
  pub shown : items ≡ item.Constructors type.name type.cons ∷ []

pub data RefusesConstructors (s : State) (type : ConType) : Reason → Type 0 where
  name_taken : is_declared s.types type.name ≡ true → RefusesConstructors s type (Of naming.NameTaken type.name)
  unknown_name : (n : List ℕ) → is_declared s.types type.name ≡ false → unknown_of (signature_of s.defs) type ≡ Some n → RefusesConstructors s type (Of naming.UnknownName n)
  no_constructor : (n : List ℕ) → is_declared s.types type.name ≡ false → unknown_of (signature_of s.defs) type ≡ None → other_of (signature_of s.defs) type ≡ Some n →
      RefusesConstructors s type (Of naming.NotConstructor n)
  lacks_lemma : (n : List ℕ) → is_declared s.types type.name ≡ false → AreConstructors (signature_of s.defs) type →
      first_lacking s.named (needed (signature_of s.defs) type) ≡ Some n → RefusesConstructors s type (Of naming.LacksLemma n)

-- Measures.

-- the state of a theory with what the sources of measures have
pub record Session : Type 0 where
  pub theory : State
  pub sources : List Source

abbrev pub session : State → List Source → Session
session theory sources = record { theory = theory; sources = sources }

-- the earliest wrong name of a written type and of a written term
abbrev pub wrong_type_name : Search → State → RawTyp → Option Found
wrong_type_name k s written = earliest None (wrong_in_type k (signature_of s.defs) written)

abbrev pub wrong_name : Search → State → RawTm → Option Found
wrong_name k s raw = earliest None (wrong_in k (signature_of s.defs) (declarations (signature_of s.defs) []) raw)

-- what the written term stands for as a function from the type into the natural numbers
abbrev pub Measures : State → Typ → RawTm → Result Tm InferFault → Type 0
Measures s type raw result = Answers (signature_of s.defs) [] [] (Some (function_type type natural)) raw result

-- a term without variables, and without type variables that the type lacks
abbrev pub is_fit : Typ → Tm → Bool
is_fit type t = not (is_open t) && not (is_some (hidden_of t type))

-- the names are those of the signature, as far as they come before what types say of the term
pub record AreNamed (s : State) (written : RawTyp) (raw : RawTm) : Type 0 where
  pub type_known : wrong_type_name Unknown s written ≡ None
  pub term_known : wrong_name Unknown s raw ≡ None
  pub type_right : wrong_type_name Arity s written ≡ None

-- the written term stands for a measure of the written type
pub record Declares (kind : DeclKind) (s : State) (written : RawTyp) (raw : RawTm) (decl : Decl) : Type 0 where
  pub names : AreNamed s written raw
  pub typed : Measures s (plain_type written) raw (Ok decl.term)
  pub fit : is_fit (plain_type written) decl.term ≡ true
  pub measure : IsMeasure decl.ty decl.term
  pub kind_is : decl.kind ≡ kind
  pub type_is : decl.ty ≡ plain_type written

abbrev pub measure_item : DeclKind → Typ → Tm → Item
measure_item declared.Size type t = item.Size type t
measure_item declared.Measure type t = item.Measure type t

pub record AcceptsMeasure (kind : DeclKind) (s : Session) (written : RawTyp) (raw : RawTm) (items : List Item) (t : Session) : Type 0 where
  pub decl : Decl
  pub declares : Declares kind s.theory written raw decl
  pub theory : t.theory ≡ s.theory
  pub sources : t.sources ≡ told_each decl.kind decl.ty decl.term s.sources
  pub shown : items ≡ measure_item decl.kind decl.ty decl.term ∷ []

-- the term's names or types are at fault
abbrev pub FailsMeasure : State → Typ → RawTm → ℕ → Reason → Type 0
FailsMeasure s type raw at reason = (fault : InferFault) × Measures s type raw (Err fault) × ExplainsTerm fault at reason

-- a name isn't one of the signature, or a type constructor has another number of arguments
pub data Misnames (s : State) (written : RawTyp) (raw : RawTm) : ℕ → Reason → Type 0 where
  unknown_type_name : (at : ℕ) (n : List ℕ) → wrong_type_name Unknown s written ≡ Some (at, n) → Misnames s written raw at (Of naming.UnknownName n)
  unknown_name : (at : ℕ) (n : List ℕ) → wrong_type_name Unknown s written ≡ None → wrong_name Unknown s raw ≡ Some (at, n) → Misnames s written raw at (Of naming.UnknownName n)
  bad_arity : (at : ℕ) (n : List ℕ) → wrong_type_name Unknown s written ≡ None → wrong_name Unknown s raw ≡ None → wrong_type_name Arity s written ≡ Some (at, n) →
      Misnames s written raw at (Of naming.BadArity n)

pub data RefusesMeasure (s : State) (begins : ℕ) (written : RawTyp) (raw : RawTm) : ℕ → Reason → Type 0 where
  misnamed : (at : ℕ) (reason : Reason) → Misnames s written raw at reason → RefusesMeasure s begins written raw at reason
  untyped : (at : ℕ) (reason : Reason) → AreNamed s written raw → FailsMeasure s (plain_type written) raw at reason → RefusesMeasure s begins written raw at reason
  unfit : (t : Tm) → AreNamed s written raw → Measures s (plain_type written) raw (Ok t) → is_fit (plain_type written) t ≡ false →
      RefusesMeasure s begins written raw begins (Plain kind.NotMeasure)

-- Groups of functions.

-- what is shown are theorems that the theory names, and an order; the sources are as before
abbrev pub AcceptsGroup : Session → List Item → Session → Type 0
AcceptsGroup s items t = groups.AreNamed t.theory items × (t.sources ≡ s.sources)

-- some fault of a group
abbrev pub RefusesGroup : ℕ → Reason → Type 0
RefusesGroup at reason = (fault : FunFault) × Explains fault (record { at = at; reason = reason })

-- Commands.

-- a statement that is printed is a named theorem, derivable from definitions that are conservative, without hypotheses and promises
pub record IsProved (t : State) (name : List ℕ) (s : Statement) : Type 0 where
  pub theorem : Theorem
  pub found : found_theorem name t.named ≡ Some theorem
  pub statement : s ≡ stated theorem.concl
  pub noted : IsNoted t.defs theorem
  pub derived : IsTheorem theorem
  pub conservative : IsConservative theorem.defs

abbrev pub IsProvedItem : State → Item → Type 0
IsProvedItem t (item.Definition name s) = IsProved t name s
IsProvedItem t (item.Typedef name s) = IsProved t name s
IsProvedItem t (item.Theorem name s) = IsProved t name s
IsProvedItem t (item.Simp name) = Unit {0}
IsProvedItem t (item.Cong name) = Unit {0}
IsProvedItem t (item.Constructors name names) = Unit {0}
IsProvedItem t (item.Size type m) = Unit {0}
IsProvedItem t (item.Measure type m) = Unit {0}
IsProvedItem t (item.Order names parts) = Unit {0}

abbrev pub AreProved : State → List Item → Type 0
AreProved t [] = Unit {0}
AreProved t (i ∷ items) = IsProvedItem t i × AreProved t items

abbrev pub AcceptsBody : Session → Body → List Item → Session → Type 0
AcceptsBody s (body.Definition name raw) items t = AcceptsDefinition s.theory name raw items t.theory × (t.sources ≡ s.sources)
AcceptsBody s (body.Typedef name abstract represent fact) items t = AcceptsType s.theory name abstract represent fact items t.theory × (t.sources ≡ s.sources)
AcceptsBody s (body.Lemma name raw lines) items t = AcceptsLemma s.theory name raw lines items t.theory × (t.sources ≡ s.sources)
AcceptsBody s (body.Simp name) items t = AcceptsSimp s.theory name items t.theory × (t.sources ≡ s.sources)
AcceptsBody s (body.Cong name) items t = AcceptsCong s.theory name items t.theory × (t.sources ≡ s.sources)
AcceptsBody s (body.Constructors name cons) items t = AcceptsConstructors s.theory (con_type name cons) items t.theory × (t.sources ≡ s.sources)
AcceptsBody s (body.Size written raw) items t = AcceptsMeasure declared.Size s written raw items t
AcceptsBody s (body.Measure written raw) items t = AcceptsMeasure declared.Measure s written raw items t
AcceptsBody s (body.Fun heads clauses) items t = AcceptsGroup s items t
AcceptsBody s (body.Function heads clauses) items t = AcceptsGroup s items t

-- the command is accepted, shows these items, and makes the one state the other
pub record Accepts (s : Session) (c : Command) (items : List Item) (t : Session) : Type 0 where
  pub accepts : AcceptsBody s c.body items t
  pub proved : AreProved t.theory items

abbrev pub RefusesBody : State → ℕ → Body → ℕ → Reason → Type 0
RefusesBody s begins (body.Definition name raw) at reason = RefusesDefinition s begins name raw at reason
RefusesBody s begins (body.Typedef name abstract represent fact) at reason = (at ≡ begins) × RefusesType s name abstract represent fact reason
RefusesBody s begins (body.Lemma name raw lines) at reason = RefusesLemma s begins name raw lines at reason
RefusesBody s begins (body.Simp name) at reason = (at ≡ begins) × RefusesSimp s name reason
RefusesBody s begins (body.Cong name) at reason = (at ≡ begins) × RefusesCong s name reason
RefusesBody s begins (body.Constructors name cons) at reason = (at ≡ begins) × RefusesConstructors s (con_type name cons) reason
RefusesBody s begins (body.Size written raw) at reason = RefusesMeasure s begins written raw at reason
RefusesBody s begins (body.Measure written raw) at reason = RefusesMeasure s begins written raw at reason
RefusesBody s begins (body.Fun heads clauses) at reason = RefusesGroup at reason
RefusesBody s begins (body.Function heads clauses) at reason = RefusesGroup at reason

-- the command is refused, at the place
pub record Refuses (s : State) (c : Command) (at : ℕ) (reason : Reason) : Type 0 where
  pub refuses : RefusesBody s c.at c.body at reason
