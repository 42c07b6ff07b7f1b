-- The data that values of the program stand for, and what an answer says.
use Rattle.std.specs.Prelude.{◌≡◌, ℕ, ◌&&◌, ◌==◌, List, [], ◌∷◌, cond, map, reverse, Option, Some, None, Result, Ok, Err, Vec}
use Rattle.std.specs.declared.alloc.Global.{Global}
use Rattle.fp_term.specs.declared.statement.Statement.{Statement as HeldStatement}
use Rattle.fp_term.specs.Types.{Typ, variable}
use Rattle.fp_term.specs.Terms.{Tm}
use Rattle.fp_full.specs.declared.fault.FullFault.{FullFault}
use Rattle.fp_full.specs.declared.fault.FullFault.TheVariants.{Refused, TooDeep, NameTooLong, NoMemory}
use Rattle.fp_full.specs.declared.lexicon.Mark.{Mark}
use Rattle.fp_full.specs.declared.lexicon.Mark.TheVariants.{Left, Right, Equals, BraceLeft, BraceRight}
use Rattle.fp_full.specs.declared.parsed.Definition.{Definition}
use Rattle.fp_full.specs.declared.parsed.Kind.{Kind as Asked}
use Rattle.fp_full.specs.declared.parsed.Kind.TheVariants.{Term, Statement, File}
use Rattle.fp_full.specs.declared.parsed.Parsed.{Parsed as Read}
use Rattle.fp_full.specs.declared.parsed.Parsed.TheVariants as parsed
use Rattle.fp_full.specs.declared.phase.Phase.{Phase as HeldPhase}
use Rattle.fp_full.specs.declared.phase.Phase.TheVariants as phase
use Rattle.fp_full.specs.declared.nest.Root.{Root as HeldRoot}
use Rattle.fp_full.specs.declared.nest.Root.TheVariants as root
use Rattle.fp_full.specs.declared.nest.Frame.{Frame as HeldFrame}
use Rattle.fp_full.specs.declared.nest.Frame.TheVariants as frame
use Rattle.fp_full.specs.declared.nest.Nest.{Nest as HeldNest}
use Rattle.fp_full.specs.declared.typing.Use.{Use as HeldUse}
use Rattle.fp_full.specs.declared.typing.Use.TheVariants as role
use Rattle.fp_full.specs.declared.typing.Partial.{Partial as HeldPartial}
use Rattle.fp_full.specs.declared.state.State.{State as HeldState}
use Rattle.fp_full.specs.declared.state.State.TheVariants.{TermDue, FormDue, NumberDue, FreeNameDue, ConstantNameDue, TypeDue, TypeNameDue, CloseDue, TermRead, StatementDue, SDue, HypothesesDue, HDue, HypothesisDue, EndDue, StatementRead, EntryDue, EntryNameDue, EqualsDue, BraceDue, BraceCloseDue}
use Rattle.fp_term.specs.Names.{is_name}
use Rattle.fp_full.specs.Tokens.{Token, left, right, equals, brace_left, brace_right}
use Rattle.fp_full.specs.Grammar.{Entry}
use Rattle.fp_full.specs.Texts.{Kind, of_term, of_statement, of_file, Parsed, a_term, a_statement, entries, IsText}
use Rattle.fp_full.specs.Machine.{Root, alone, hypothesis, conclusion, body, Frame, function_part, argument_part, body_part, Nest, Use, free_type, constant_type, bound_type, Partial, State, term_due, form_due, number_due, free_name_due, constant_name_due, type_due, type_name_due, close_due, term_read, statement_due, s_due, hypotheses_due, h_due, hypothesis_due, end_due, statement_read, entry_due, entry_name_due, equals_due, brace_due, brace_close_due, Phase, between, in_word}

abbrev pub token_of : Mark → Token
token_of Left = left
token_of Right = right
token_of Equals = equals
token_of BraceLeft = brace_left
token_of BraceRight = brace_right

abbrev pub entry_of : Definition → Entry
entry_of d = record { at = d.at; brace = d.brace; name = d.name; term = d.term }

abbrev pub entries_of : List Definition → List Entry
entries_of ds = map entry_of ds

abbrev pub asked : Asked → Kind
asked Term = of_term
asked Statement = of_statement
asked File = of_file

abbrev pub parsed_of : Read → Parsed
parsed_of (parsed.Term t) = a_term t
parsed_of (parsed.Statement hyps concl) = a_statement hyps.items concl
parsed_of (parsed.Definitions ds) = entries (entries_of ds.items)

abbrev pub root_of : HeldRoot → Root
root_of root.Alone = alone
root_of (root.Hypothesis hyps) = hypothesis hyps.items
root_of (root.Conclusion hyps) = conclusion hyps.items
root_of (root.Body earlier at name brace) = body (entries_of earlier.items) at name brace

abbrev pub frame_of : HeldFrame → Frame
frame_of frame.Function = function_part
frame_of (frame.Argument t) = argument_part t
frame_of (frame.Body s) = body_part s

-- the innermost first
abbrev pub frames_of : List HeldFrame → List Frame
frames_of frames = reverse (map frame_of frames)

abbrev pub nest_of : HeldNest → Nest
nest_of nest = record { root = root_of nest.root; frames = frames_of nest.frames.items }

abbrev pub use_of : HeldUse → Use
use_of (role.Free name) = free_type name
use_of (role.Constant name) = constant_type name
use_of role.Bound = bound_type

abbrev pub partial_of : HeldPartial → Partial
partial_of p = record { name = p.name; args = p.args.items }

-- the innermost first
abbrev pub partials_of : List HeldPartial → List Partial
partials_of ps = reverse (map partial_of ps)

abbrev pub state_of : HeldState → State
state_of (TermDue nest) = term_due (nest_of nest)
state_of (FormDue nest) = form_due (nest_of nest)
state_of (NumberDue nest) = number_due (nest_of nest)
state_of (FreeNameDue nest) = free_name_due (nest_of nest)
state_of (ConstantNameDue nest) = constant_name_due (nest_of nest)
state_of (TypeDue role ps nest) = type_due (use_of role) (partials_of ps.items) (nest_of nest)
state_of (TypeNameDue role ps nest) = type_name_due (use_of role) (partials_of ps.items) (nest_of nest)
state_of (CloseDue t nest) = close_due t (nest_of nest)
state_of (TermRead t) = term_read t
state_of StatementDue = statement_due
state_of SDue = s_due
state_of HypothesesDue = hypotheses_due
state_of HDue = h_due
state_of (HypothesisDue hyps) = hypothesis_due hyps.items
state_of (EndDue hyps t) = end_due hyps.items t
state_of (StatementRead hyps t) = statement_read hyps.items t
state_of (EntryDue ds) = entry_due (entries_of ds.items)
state_of (EntryNameDue ds at) = entry_name_due (entries_of ds.items) at
state_of (EqualsDue ds at name) = equals_due (entries_of ds.items) at name
state_of (BraceDue ds at name) = brace_due (entries_of ds.items) at name
state_of (BraceCloseDue ds d) = brace_close_due (entries_of ds.items) (entry_of d)

abbrev pub phase_of : HeldPhase → Phase
phase_of (phase.Between state) = between (state_of state)
phase_of (phase.InWord word state) = in_word word.items (state_of state)

-- the type whose text the word is
abbrev pub variable_in : List ℕ → Option Typ
variable_in [] = None
variable_in (b ∷ name) = cond (b == 39 && is_name name) (Some (variable name)) None

-- where the bytes are refused, it is at such a place
abbrev pub RefusesAt : FullFault → (ℕ → Type 0) → Type 0
RefusesAt (Refused at) P = P at
RefusesAt (TooDeep at) P = Unit {0}
RefusesAt (NameTooLong at) P = Unit {0}
RefusesAt NoMemory P = Unit {0}

abbrev pub IsRefusedAt : {T : Type 0} → Result T FullFault → (ℕ → Type 0) → Type 0
IsRefusedAt (Ok x) P = Unit {0}
IsRefusedAt (Err fault) P = RefusesAt fault P

-- where they are too deep, it is at such a place
abbrev pub TooDeepAt : FullFault → (ℕ → Type 0) → Type 0
TooDeepAt (Refused at) P = Unit {0}
TooDeepAt (TooDeep at) P = P at
TooDeepAt (NameTooLong at) P = Unit {0}
TooDeepAt NoMemory P = Unit {0}

abbrev pub IsTooDeepAt : {T : Type 0} → Result T FullFault → (ℕ → Type 0) → Type 0
IsTooDeepAt (Ok x) P = Unit {0}
IsTooDeepAt (Err fault) P = TooDeepAt fault P

-- where a name is too long, it begins at such a place
abbrev pub NameTooLongAt : FullFault → (ℕ → Type 0) → Type 0
NameTooLongAt (Refused at) P = Unit {0}
NameTooLongAt (TooDeep at) P = Unit {0}
NameTooLongAt (NameTooLong at) P = P at
NameTooLongAt NoMemory P = Unit {0}

abbrev pub IsNameTooLongAt : {T : Type 0} → Result T FullFault → (ℕ → Type 0) → Type 0
IsNameTooLongAt (Ok x) P = Unit {0}
IsNameTooLongAt (Err fault) P = NameTooLongAt fault P

abbrev pub IsWantOfMemory : FullFault → Type 0
IsWantOfMemory (Refused at) = ⊥
IsWantOfMemory (TooDeep at) = ⊥
IsWantOfMemory (NameTooLong at) = ⊥
IsWantOfMemory NoMemory = Unit {0}

-- read as a value that stands for that, unless memory ran out
abbrev pub IsReadAs : {T V : Type 0} → (T → V) → V → Result T FullFault → Type 0
IsReadAs view v (Ok x) = view x ≡ v
IsReadAs view v (Err fault) = IsWantOfMemory fault

-- a definition's name and term
abbrev pub pair_of : Entry → List ℕ × Tm
pair_of e = (e.name, e.term)

-- the bytes are a text of definitions with these names and terms
pub record IsTextOfPairs (bytes : List ℕ) (pairs : List (List ℕ × Tm)) : Type 0 where
  pub listed : List Entry
  pub text : IsText bytes (entries listed)
  pub same : pairs ≡ map pair_of listed

abbrev pub statement_seen : HeldStatement → Parsed
statement_seen s = a_statement s.hyps s.concl

abbrev pub definitions_seen : Vec Definition Global → Parsed
definitions_seen v = entries (entries_of v.items)
