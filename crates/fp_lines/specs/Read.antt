-- What the arguments of a line stand for.
use Rattle.std.specs.Prelude.{◌≡◌, ◌==◌, ◌-◌, ℕ, if◌then◌else◌, List, [], ◌∷◌, ◌++◌, Option, Some, None, Result, Ok, Err}
use Rattle.std.specs.List.{slice_get}
use Rattle.fp_term.specs.Types.{Typ}
use Rattle.fp_term.specs.Terms.{Tm, bound, free, constant, app, abs}
use Rattle.fp_term.specs.declared.signature.Signature.{Signature}
use Rattle.fp_raw.specs.Raws.{RawTm, RawTyp}
use Rattle.fp_constrain.specs.Subterms.{plain}
use Rattle.fp_infer.specs.Names.{Found, wrong_in_type, earliest}
use Rattle.fp_infer.specs.Elaborated.{Answers}
use Rattle.fp_infer.specs.declared.names.Search.TheVariants.{Unknown, Arity}
use Rattle.fp_infer.specs.declared.fault.InferFault.{InferFault}
use Rattle.fp_kernel.specs.Definitions.{Def}
use Rattle.fp_kernel.specs.Start.{signature_of}
use Rattle.fp_kernel.specs.Theorems.{Theorem}
use Rattle.fp_commands.specs.declared.command.Arg.{Arg}
use Rattle.fp_commands.specs.declared.command.Arg.TheVariants.{Number, Name, TyVar, Term, Ty}
use Rattle.fp_theory.specs.State.{found_theorem}
use Rattle.fp_lines.specs.declared.cause.LineCause.{LineCause}
use Rattle.fp_lines.specs.declared.cause.LineCause.TheVariants.{BadArgs, NoSuchLine, NoSuchTheorem, UnknownName, BadArity}
use Rattle.fp_lines.specs.declared.fault.LineFault.{LineFault}
use Rattle.fp_lines.specs.declared.fault.LineFault.TheVariants.{Bad, NoMemory}
use Rattle.fp_lines.specs.declared.reading.Setting.{Setting}
use Rattle.fp_lines.specs.Causes.{cause_in_term}

-- what a line is read over: the theory's definitions, named theorems and declared rules, the statement's free variables, and the theorems of the lines before
pub record Scene : Type 0 where
  pub defs : List Def
  pub named : List (List ℕ × Theorem)
  pub simps : List (List ℕ)
  pub given : List (List ℕ × Typ)
  pub before : List Theorem

abbrev pub signature_in : Scene → Signature
signature_in s = signature_of s.defs

abbrev pub scene_of : Setting → Scene
scene_of setting = record { defs = setting.defs.now; named = setting.theory.now.named; simps = setting.theory.now.simps; given = setting.given.now; before = setting.before.now }

-- what comes of a line
abbrev pub Answer : Type 0
Answer = Result Theorem LineFault

-- the theorem of the line of that number, from 1
abbrev pub line_numbered : ℕ → List Theorem → Option Theorem
line_numbered n before = if n == 0 then None else slice_get before (n - 1)

abbrev pub there_or : LineCause → Option Theorem → Answer
there_or cause None = Err (Bad cause)
there_or cause (Some th) = Ok th

abbrev pub theorem_named : Scene → Arg → Answer
theorem_named s (Number n) = there_or NoSuchLine (line_numbered n s.before)
theorem_named s (Name a) = there_or NoSuchTheorem (found_theorem a s.named)
theorem_named s (TyVar a) = Err (Bad BadArgs)
theorem_named s (Term t) = Err (Bad BadArgs)
theorem_named s (Ty t) = Err (Bad BadArgs)

-- the written term stands for this one
abbrev pub Reads : Scene → RawTm → Tm → Type 0
Reads s raw t = Answers (signature_in s) [] s.given None raw (Ok t)

-- the written term stands for none, or memory is wanting
pub record Unread (s : Scene) (raw : RawTm) (f : LineFault) : Type 0 where
  pub fault : InferFault
  pub answers : Answers (signature_in s) [] s.given None raw (Err fault)
  pub is : f ≡ cause_in_term fault

-- a written type whose names are right, or the cause of the first wrong one
abbrev pub right_unless : Option Found → LineCause → Result (Unit {0}) LineFault → Result (Unit {0}) LineFault
right_unless None cause later = later
right_unless (Some p) cause later = Err (Bad cause)

abbrev pub checked_type : Signature → RawTyp → Result (Unit {0}) LineFault
checked_type signature s =
    right_unless (earliest None (wrong_in_type Unknown signature s)) UnknownName (right_unless (earliest None (wrong_in_type Arity signature s)) BadArity (Ok tt))

abbrev pub if_right : Result (Unit {0}) LineFault → Typ → Result Typ LineFault
if_right (Ok u) s = Ok s
if_right (Err f) s = Err f

abbrev pub type_read : Signature → RawTyp → Result Typ LineFault
type_read signature s = if_right (checked_type signature s) (plain s)

-- it is that, or memory is wanting
abbrev pub Is : {A : Type 0} → Result A LineFault → Result A LineFault → Type 0
Is expected (Ok x) = expected ≡ Ok x
Is expected (Err (Bad cause)) = expected ≡ Err (Bad cause)
Is expected (Err NoMemory) = Unit {0}

-- a variable with its term
abbrev pub paired : Tm → Tm → List (List ℕ × Typ × Tm)
paired (free x s) u = (x, s, u) ∷ []
paired (bound n) u = []
paired (constant x s) u = []
paired (app f x) u = []
paired (abs s x) u = []

-- variables and terms in turn are read, and these pairs come behind those before
pub data ReadsPairs (s : Scene) : List Arg → List (List ℕ × Typ × Tm) → List (List ℕ × Typ × Tm) → Type 0 where
  no_pairs : {old : List (List ℕ × Typ × Tm)} → ReadsPairs s [] old old
  one_pair : {x t : RawTm} {rest : List Arg} {old new : List (List ℕ × Typ × Tm)} (v u : Tm) → Reads s x v → Reads s t u → ReadsPairs s rest (old ++ paired v u) new →
      ReadsPairs s (Term x ∷ Term t ∷ rest) old new

-- a variable and a term are read, or the first of them that isn't
pub record OnePair (s : Scene) (x t : RawTm) (old new : List (List ℕ × Typ × Tm)) : Type 0 where
  pub variable : Tm
  pub term : Tm
  pub variable_read : Reads s x variable
  pub term_read : Reads s t term
  pub is : new ≡ old ++ paired variable term

pub data OneUnread (s : Scene) (x t : RawTm) : LineFault → Type 0 where
  no_room : OneUnread s x t NoMemory
  no_variable : {f : LineFault} → Unread s x f → OneUnread s x t f
  no_term : {f : LineFault} (v : Tm) → Reads s x v → Unread s t f → OneUnread s x t f

-- the first of them that stands for nothing
pub data UnreadPairs (s : Scene) : List Arg → LineFault → Type 0 where
  wanting : {args : List Arg} → UnreadPairs s args NoMemory
  at_variable : {x t : RawTm} {rest : List Arg} {f : LineFault} → Unread s x f → UnreadPairs s (Term x ∷ Term t ∷ rest) f
  at_term : {x t : RawTm} {rest : List Arg} {f : LineFault} (v : Tm) → Reads s x v → Unread s t f → UnreadPairs s (Term x ∷ Term t ∷ rest) f
  behind : {x t : RawTm} {rest : List Arg} {f : LineFault} (v u : Tm) → Reads s x v → Reads s t u → UnreadPairs s rest f → UnreadPairs s (Term x ∷ Term t ∷ rest) f

-- type variables and types in turn are read, behind those before, or the first that stands for nothing
abbrev pub Types : Type 0
Types = List (List ℕ × Typ)

abbrev pub with_type : Result Typ LineFault → (Typ → Result Types LineFault) → Result Types LineFault
with_type (Err f) next = Err f
with_type (Ok s) next = next s

abbrev pub types_read : Signature → List Arg → Types → Result Types LineFault
types_read signature [] old = Ok old
types_read signature (TyVar a ∷ Ty s ∷ rest) old = with_type (type_read signature s) (λ t. types_read signature rest (old ++ (a, t) ∷ []))
types_read signature _ old = Err (Bad BadArgs)

-- they are these, or the first that stands for nothing, or memory is wanting
abbrev pub TypesRead : Result Types LineFault → Types → Result (Unit {0}) LineFault → Type 0
TypesRead expected pairs (Ok u) = expected ≡ Ok pairs
TypesRead expected pairs (Err (Bad cause)) = expected ≡ Err (Bad cause)
TypesRead expected pairs (Err NoMemory) = Unit {0}
