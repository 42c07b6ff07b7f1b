-- The stacks and states that values of the program stand for, and the forms of the clauses.
use Rattle.std.specs.Prelude.{◌≡◌, ◌+◌, ◌<◌, ◌≤◌, ◌++◌, ◌∷◌, [], ◌&&◌, ℕ, Bool, true, List, map, reverse, length, take, Option, Some, None, Result, Ok, Err}
use Rattle.fp_words.specs.declared.word.Placed.{Placed}
use Rattle.fp_written.specs.declared.kinds.Kind.{Kind}
use Rattle.fp_written.specs.declared.kinds.Limits.{Limits}
use Rattle.fp_written.specs.Symbols.{Symbol, Term, MoreTerm, AfterWhole, AfterTerm, AfterPart, Vars, MoreVars, VarName, Ty, MoreTy, AfterTy, AfterArg, ConName, WantColons, WantThen, WantElse, WantClose, MakeName, MakeNumber, MakeApp, MakeInfix, MakeNot, MakeIf, MakePair, MakeTyped, MakeAbs, MakeTypedAbs, Deepen, MakeTyVar, MakeCon, MakePost, MakeTyInfix, MakeArg, DeepenTy}
use Rattle.fp_written.specs.declared.symbol.Symbol.{Symbol as CodeSymbol}
use Rattle.fp_written.specs.declared.symbol.Symbol.TheVariants.{Term as C_Term, MoreTerm as C_MoreTerm, AfterWhole as C_AfterWhole, AfterTerm as C_AfterTerm, AfterPart as C_AfterPart, Vars as C_Vars, MoreVars as C_MoreVars, VarName as C_VarName, Ty as C_Ty, MoreTy as C_MoreTy, AfterTy as C_AfterTy, AfterArg as C_AfterArg, ConName as C_ConName, WantColons as C_WantColons, WantThen as C_WantThen, WantElse as C_WantElse, WantClose as C_WantClose, MakeName as C_MakeName, MakeNumber as C_MakeNumber, MakeApp as C_MakeApp, MakeInfix as C_MakeInfix, MakeNot as C_MakeNot, MakeIf as C_MakeIf, MakePair as C_MakePair, MakeTyped as C_MakeTyped, MakeAbs as C_MakeAbs, MakeTypedAbs as C_MakeTypedAbs, Deepen as C_Deepen, MakeTyVar as C_MakeTyVar, MakeCon as C_MakeCon, MakePost as C_MakePost, MakeTyInfix as C_MakeTyInfix, MakeArg as C_MakeArg, DeepenTy as C_DeepenTy}
use Rattle.fp_written.specs.declared.moves.Move.{Move as CodeMove}
use Rattle.fp_written.specs.declared.moves.Move.TheVariants.{Takes, Passes, Stops}
use Rattle.fp_written.specs.declared.build.Part.{Part}
use Rattle.fp_written.specs.declared.types.TypePart.{TypePart}
use Rattle.fp_written.specs.TypeViews.{sized_type_of}
use Rattle.fp_written.specs.declared.build.Parts.{Parts}
use Rattle.fp_written.specs.declared.reader.Reader.{Reader}
use Rattle.fp_written.specs.declared.reader.Stepped.{Stepped}
use Rattle.fp_written.specs.declared.reader.Stepped.TheVariants.{On, Refused as StepRefused, TooDeep as StepTooDeep, TooLarge as StepTooLarge, NumberTooLarge as StepNumber}
use Rattle.fp_written.specs.declared.kinds.Found.{Found}
use Rattle.fp_written.specs.declared.kinds.Found.TheVariants.{Term as FoundTerm, Ty as FoundType}
use Rattle.fp_written.specs.declared.kinds.ReadFault.{ReadFault}
use Rattle.fp_written.specs.declared.kinds.ReadFault.TheVariants.{Refused, TooDeep, TooLarge, NumberTooLarge, NoMemory}
use Rattle.fp_written.specs.Written.{Tree, a_term, a_type, FirstBad, FirstPast, no_limits, depth_only, depth_and_size}
use Rattle.fp_written.specs.Machine.{Move, takes, passes, stops, Sized, sized, SizedTy, sized_ty, Made, made, State, state, on, Verdict, goes_on, is_refused, is_too_deep, is_too_large, has_large_number, keeps, number_in, owed, step, judged, run, start, ended}

abbrev pub symbol_of : CodeSymbol → Symbol
symbol_of (C_Term n k) = Term n k
symbol_of (C_MoreTerm l n k) = MoreTerm l n k
symbol_of C_AfterWhole = AfterWhole
symbol_of (C_AfterTerm k) = AfterTerm k
symbol_of (C_AfterPart k) = AfterPart k
symbol_of (C_Vars b k) = Vars b k
symbol_of (C_MoreVars b k) = MoreVars b k
symbol_of (C_VarName b k) = VarName b k
symbol_of (C_Ty n k) = Ty n k
symbol_of (C_MoreTy l n k) = MoreTy l n k
symbol_of (C_AfterTy k) = AfterTy k
symbol_of (C_AfterArg k) = AfterArg k
symbol_of C_ConName = ConName
symbol_of C_WantColons = WantColons
symbol_of C_WantThen = WantThen
symbol_of C_WantElse = WantElse
symbol_of C_WantClose = WantClose
symbol_of (C_MakeName name at) = MakeName name.now at
symbol_of (C_MakeNumber n at) = MakeNumber n at
symbol_of C_MakeApp = MakeApp
symbol_of (C_MakeInfix o at) = MakeInfix o at
symbol_of (C_MakeNot at) = MakeNot at
symbol_of (C_MakeIf at) = MakeIf at
symbol_of (C_MakePair at) = MakePair at
symbol_of (C_MakeTyped at) = MakeTyped at
symbol_of (C_MakeAbs b name at) = MakeAbs b name.now at
symbol_of (C_MakeTypedAbs b name at) = MakeTypedAbs b name.now at
symbol_of C_Deepen = Deepen
symbol_of (C_MakeTyVar name at) = MakeTyVar name.now at
symbol_of (C_MakeCon name at) = MakeCon name.now at
symbol_of (C_MakePost name at) = MakePost name.now at
symbol_of (C_MakeTyInfix o at) = MakeTyInfix o at
symbol_of C_MakeArg = MakeArg
symbol_of C_DeepenTy = DeepenTy

-- the stack, of which the last symbol is on top
abbrev pub stack_of : List CodeSymbol → List Symbol
stack_of ss = reverse (map symbol_of ss)

abbrev pub move_of : CodeMove → Move
move_of (Takes d symbols) = takes d (map symbol_of symbols.items)
move_of Passes = passes
move_of Stops = stops

abbrev pub sized_of : Part → Sized
sized_of p = sized p.raw p.depth

abbrev pub terms_of : List Part → List Sized
terms_of ts = reverse (map sized_of ts)

abbrev pub types_so : List TypePart → List SizedTy
types_so us = reverse (map sized_type_of us)

abbrev pub made_of : Parts → Made
made_of p = made (terms_of p.terms.items) (types_so p.types.items)

abbrev pub state_of : Reader → State
state_of r = state (stack_of r.todo.items) (terms_of r.parts.terms.items) (types_so r.parts.types.items)

abbrev pub verdict_of : Stepped → Verdict
verdict_of (On r) = goes_on (state_of r)
verdict_of StepRefused = is_refused
verdict_of StepTooDeep = is_too_deep
verdict_of StepTooLarge = is_too_large
verdict_of StepNumber = has_large_number

-- where it goes on, the words that are still owed are counted
abbrev pub Counted : Stepped → Type 0
Counted (On r) = r.owed ≡ owed (stack_of r.todo.items)
Counted _ = Unit {0}

abbrev pub tree_seen : Found → Tree
tree_seen (FoundTerm t) = a_term t
tree_seen (FoundType u) = a_type u

-- each fault at its first place
abbrev pub FaultIs : Limits → Kind → List Placed → Result Found ReadFault → Type 0
FaultIs limits kind tokens (Ok x) = Unit {0}
FaultIs limits kind tokens (Err (Refused at)) = FirstBad limits kind tokens at
FaultIs limits kind tokens (Err (TooDeep at)) = FirstPast limits no_limits (depth_only limits) kind tokens at
FaultIs limits kind tokens (Err (TooLarge at)) = FirstPast limits (depth_only limits) (depth_and_size limits) kind tokens at
FaultIs limits kind tokens (Err (NumberTooLarge at)) = FirstPast limits (depth_and_size limits) limits kind tokens at
FaultIs limits kind tokens (Err NoMemory) = Unit {0}

-- read as that tree, unless memory ran out
abbrev pub IsReadAs : Tree → Result Found ReadFault → Type 0
IsReadAs tree (Ok x) = tree_seen x ≡ tree
IsReadAs tree (Err NoMemory) = Unit {0}
IsReadAs tree (Err _) = ⊥

-- the number that a word is, if it is one, is within the limit
abbrev pub numbers_keep : Option ℕ → List Placed → Bool
numbers_keep v [] = true
numbers_keep v (a ∷ tokens) = keeps v (number_in a.word) && numbers_keep v tokens

-- the machine comes to that state with the words before the place, which are within all limits
pub record Reached (limits : Limits) (kind : Kind) (tokens : List Placed) (at : ℕ) (s : State) : Type 0 where
  pub within : at ≤ length tokens
  pub run_so : run limits.depth (start kind) (take at tokens) ≡ on s
  pub size_so : keeps limits.size (at + owed s.todo) ≡ true
  pub numbers_so : numbers_keep limits.number (take at tokens) ≡ true

-- there the next word has that verdict
pub record Halted (limits : Limits) (kind : Kind) (tokens : List Placed) (at : ℕ) (verdict : Verdict) : Type 0 where
  pub last : State
  pub reached : Reached limits kind tokens at last
  pub inside : at < length tokens
  pub word : Placed
  pub is_next : take (at + 1) tokens ≡ take at tokens ++ word ∷ []
  pub judged_so : judged limits at word (step limits.depth word last.todo last.terms last.types) ≡ verdict

-- the words are no tree at the end
pub record Early (limits : Limits) (kind : Kind) (tokens : List Placed) : Type 0 where
  pub last : State
  pub reached : Reached limits kind tokens (length tokens) last
  pub none : ended last ≡ None

pub data RefusedSo (limits : Limits) (kind : Kind) (tokens : List Placed) (at : ℕ) : Type 0 where
  at_word : Halted limits kind tokens at is_refused → RefusedSo limits kind tokens at
  at_end : Early limits kind tokens → at ≡ length tokens → RefusedSo limits kind tokens at

-- what the machine comes to
abbrev pub Ran : Limits → Kind → List Placed → Result Found ReadFault → Type 0
Ran limits kind tokens (Ok x) = (s : State) × Reached limits kind tokens (length tokens) s × (ended s ≡ Some (tree_seen x))
Ran limits kind tokens (Err (Refused at)) = RefusedSo limits kind tokens at
Ran limits kind tokens (Err (TooDeep at)) = Halted limits kind tokens at is_too_deep
Ran limits kind tokens (Err (TooLarge at)) = Halted limits kind tokens at is_too_large
Ran limits kind tokens (Err (NumberTooLarge at)) = Halted limits kind tokens at has_large_number
Ran limits kind tokens (Err NoMemory) = Unit {0}
