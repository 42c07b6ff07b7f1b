-- Reading word by word, with what is still to be read on a stack.
use Rattle.std.specs.Prelude.{◌+◌, ℕ, suc, max, List, [], ◌∷◌, ◌++◌, codes, Option, Some, None, Bool, true, false, cond, ◌&&◌, ◌==◌, nat_le}
use Rattle.std.specs.Option.{option_and_then}
use Rattle.fp_words.specs.declared.word.Infix.{Infix}
use Rattle.fp_words.specs.declared.word.Binder.{Binder}
use Rattle.fp_words.specs.declared.word.Word.{Word}
use Rattle.fp_words.specs.declared.word.Word.TheVariants.{Name, TyVar, Number, Between, Negation, Binds, Dot, Comma, Open, Close, Colons, If, Then, Else}
use Rattle.fp_words.specs.declared.word.Placed.{Placed}
use Rattle.fp_written.specs.declared.kinds.Kind.{Kind}
use Rattle.fp_written.specs.declared.kinds.Kind.TheVariants.{Term as TermKind, Ty as TypeKind}
use Rattle.fp_written.specs.declared.kinds.Limits.{Limits}
use Rattle.fp_written.specs.Symbols.{Symbol}
use Rattle.fp_written.specs.Symbols.{Term, MoreTerm, AfterWhole, AfterTerm, AfterPart, Vars, MoreVars, VarName, Ty, MoreTy, AfterTy, AfterArg, ConName, WantColons, WantThen, WantElse, WantClose, MakeName, MakeNumber, MakeApp, MakeInfix, MakeNot, MakeIf, MakePair, MakeTyped, MakeAbs, MakeTypedAbs, Deepen, MakeTyVar, MakeCon, MakePost, MakeTyInfix, MakeArg, DeepenTy}
use Rattle.fp_raw.specs.Raws.{RawTyp, raw_variable, raw_applied, raw_none, raw_more, RawTm, raw_name, raw_typed}
use Rattle.fp_written.specs.Trees.{ty_operator, ty_pair, with_arg, applied_to, plain, with_two, with_three, operator, numeral_of, binding}
use Rattle.fp_written.specs.Written.{level, left, right, ty_level, ty_left, Tree, a_term, a_type}

-- within the limit, if there is one
abbrev pub keeps : Option ℕ → ℕ → Bool
keeps None n = true
keeps (Some m) n = nat_le n m

-- what a symbol does with a word: it takes it, at a depth that has to be within the limit, and leaves these symbols; or lets it pass; or refuses it
pub data Move : Type 0 where
  takes : ℕ → List Symbol → Move
  passes : Move
  stops : Move

abbrev pub term_move : ℕ → ℕ → Word → ℕ → Move
term_move n k (Name x) at = takes (k + 1) (MakeName x at ∷ MoreTerm 9 n k ∷ [])
term_move n k (Number i) at = takes (k + 1) (MakeNumber i at ∷ MoreTerm 9 n k ∷ [])
term_move n k Open at = takes (k + 2) (Term 0 (k + 1) ∷ AfterTerm k ∷ MoreTerm 9 n k ∷ [])
term_move n k Negation at = cond (nat_le n 4) (takes (k + 2) (Term 4 (k + 1) ∷ MakeNot at ∷ MoreTerm 4 n k ∷ [])) stops
term_move n k (Binds b) at = cond (n == 0) (takes (k + 2) (Vars b k ∷ Deepen ∷ [])) stops
term_move n k If at = cond (n == 0) (takes (k + 2) (Term 0 (k + 1) ∷ WantThen ∷ Term 0 (k + 1) ∷ WantElse ∷ Term 0 (k + 1) ∷ MakeIf at ∷ [])) stops
term_move n k _ at = stops

abbrev pub joins : ℕ → ℕ → Infix → Bool
joins l n o = nat_le n (level o) && nat_le (left o) l

abbrev pub applies : ℕ → ℕ → Bool
applies l n = nat_le n 8 && nat_le 8 l

-- a parenthesis that begins an argument behind a term of depth d
abbrev pub opened_argument : ℕ → ℕ → ℕ → Move
opened_argument n k d = takes (k + suc (max d 2)) (Term 0 (k + 1 + 1) ∷ AfterTerm (k + 1) ∷ MoreTerm 9 9 (k + 1) ∷ MakeApp ∷ MoreTerm 8 n k ∷ [])

-- an operator behind a term of depth d, if it may stand there
abbrev pub joined : Bool → ℕ → ℕ → ℕ → Infix → ℕ → Move
joined may n k d o at = cond may (takes (k + suc d) (Term (right o) (k + 1) ∷ MakeInfix o at ∷ MoreTerm (level o) n k ∷ [])) passes

-- a name or a numeral as an argument behind a term of depth d, if it may stand there
abbrev pub argued : Bool → ℕ → ℕ → ℕ → Symbol → Move
argued may n k d first = cond may (takes (k + suc d) (first ∷ MoreTerm 9 9 (k + 1) ∷ MakeApp ∷ MoreTerm 8 n k ∷ [])) passes

-- behind a term of that level and depth d
abbrev pub more_move : ℕ → ℕ → ℕ → ℕ → Word → ℕ → Move
more_move l n k d (Between o) at = joined (joins l n o) n k d o at
more_move l n k d (Name x) at = argued (applies l n) n k d (MakeName x at)
more_move l n k d (Number i) at = argued (applies l n) n k d (MakeNumber i at)
more_move l n k d Open at = cond (applies l n) (opened_argument n k d) passes
more_move l n k d _ at = passes

abbrev pub after_whole_move : ℕ → Word → ℕ → Move
after_whole_move d Colons at = takes (suc d) (Ty 1 1 ∷ MakeTyped at ∷ [])
after_whole_move d _ at = passes

-- behind ( and a term
abbrev pub after_term_move : ℕ → ℕ → Word → ℕ → Move
after_term_move k d Close at = takes 0 (Deepen ∷ [])
after_term_move k d Colons at = takes (k + suc (suc d)) (Ty 1 (k + 2) ∷ WantClose ∷ MakeTyped at ∷ Deepen ∷ [])
after_term_move k d Comma at = takes 0 (Term 0 (k + 1) ∷ AfterPart k ∷ MakePair at ∷ Deepen ∷ [])
after_term_move k d _ at = stops

abbrev pub after_part_move : ℕ → Word → ℕ → Move
after_part_move k Close at = takes 0 []
after_part_move k Comma at = takes 0 (Term 0 (k + 1) ∷ AfterPart k ∷ MakePair at ∷ [])
after_part_move k _ at = stops

abbrev pub vars_move : Binder → ℕ → Word → ℕ → Move
vars_move b k (Name x) at = takes 0 (MoreVars b k ∷ MakeAbs b x at ∷ [])
vars_move b k Open at = takes (k + 3) (VarName b k ∷ [])
vars_move b k _ at = stops

abbrev pub more_vars_move : Binder → ℕ → Word → ℕ → Move
more_vars_move b k (Name x) at = takes 0 (MoreVars b k ∷ MakeAbs b x at ∷ [])
more_vars_move b k Open at = takes (k + 3) (VarName b k ∷ [])
more_vars_move b k Dot at = takes 0 (Term 0 (k + 1) ∷ [])
more_vars_move b k _ at = stops

abbrev pub var_name_move : Binder → ℕ → Word → ℕ → Move
var_name_move b k (Name x) at = takes 0 (WantColons ∷ Ty 1 (k + 2) ∷ WantClose ∷ MoreVars b k ∷ MakeTypedAbs b x at ∷ [])
var_name_move b k _ at = stops

abbrev pub ty_move : ℕ → ℕ → Word → ℕ → Move
ty_move n k (TyVar x) at = takes (k + 1) (MakeTyVar x at ∷ MoreTy 5 n k ∷ [])
ty_move n k (Name x) at = takes (k + 1) (MakeCon x at ∷ MoreTy 5 n k ∷ [])
ty_move n k Open at = takes (k + 2) (Ty 1 (k + 1) ∷ AfterTy k ∷ MoreTy 5 n k ∷ [])
ty_move n k _ at = stops

abbrev pub ty_joins : ℕ → ℕ → Infix → Bool
ty_joins l n o = nat_le n (ty_level o) && nat_le (ty_left o) l

abbrev pub ty_applies : ℕ → ℕ → Bool
ty_applies l n = nat_le n 4 && nat_le 4 l

abbrev pub more_ty_move : ℕ → ℕ → ℕ → ℕ → Word → ℕ → Move
more_ty_move l n k d (Between o) at = cond (ty_joins l n o) (takes (k + suc d) (Ty (ty_level o) (k + 1) ∷ MakeTyInfix o at ∷ MoreTy (ty_level o) n k ∷ [])) passes
more_ty_move l n k d (Name x) at = cond (ty_applies l n) (takes (k + suc d) (MakePost x at ∷ MoreTy 4 n k ∷ [])) passes
more_ty_move l n k d _ at = passes

abbrev pub after_ty_move : ℕ → Word → ℕ → Move
after_ty_move k Close at = takes 0 (DeepenTy ∷ [])
after_ty_move k Comma at = takes 0 (Ty 1 (k + 1) ∷ AfterArg k ∷ MakeArg ∷ MakeArg ∷ [])
after_ty_move k _ at = stops

abbrev pub after_arg_move : ℕ → Word → ℕ → Move
after_arg_move k Close at = takes 0 (ConName ∷ [])
after_arg_move k Comma at = takes 0 (Ty 1 (k + 1) ∷ AfterArg k ∷ MakeArg ∷ [])
after_arg_move k _ at = stops

abbrev pub con_name_move : Word → ℕ → Move
con_name_move (Name x) at = takes 0 (MakeCon x at ∷ [])
con_name_move _ at = stops

abbrev pub colons_move : Word → Move
colons_move Colons = takes 0 []
colons_move _ = stops

abbrev pub then_move : Word → Move
then_move Then = takes 0 []
then_move _ = stops

abbrev pub else_move : Word → Move
else_move Else = takes 0 []
else_move _ = stops

abbrev pub close_move : Word → Move
close_move Close = takes 0 []
close_move _ = stops

-- a part that was made, and its depth
pub record Sized : Type 0 where
  pub tree : RawTm
  pub depth : ℕ

pub record SizedTy : Type 0 where
  pub tree : RawTyp
  pub depth : ℕ

abbrev pub sized : RawTm → ℕ → Sized
sized t d = record { tree = t; depth = d }

abbrev pub sized_ty : RawTyp → ℕ → SizedTy
sized_ty u d = record { tree = u; depth = d }

-- the terms and types that were made, the last first
pub record Made : Type 0 where
  pub terms : List Sized
  pub types : List SizedTy

abbrev pub made : List Sized → List SizedTy → Made
made ts us = record { terms = ts; types = us }

abbrev pub one_term : (Sized → Sized) → List Sized → List SizedTy → Option Made
one_term f [] us = None
one_term f (a ∷ ts) us = Some (made (f a ∷ ts) us)

abbrev pub two_terms : (Sized → Sized → Sized) → List Sized → List SizedTy → Option Made
two_terms f [] us = None
two_terms f (b ∷ []) us = None
two_terms f (b ∷ a ∷ ts) us = Some (made (f a b ∷ ts) us)

abbrev pub three_terms : (Sized → Sized → Sized → Sized) → List Sized → List SizedTy → Option Made
three_terms f [] us = None
three_terms f (c ∷ []) us = None
three_terms f (c ∷ b ∷ []) us = None
three_terms f (c ∷ b ∷ a ∷ ts) us = Some (made (f a b c ∷ ts) us)

abbrev pub term_and_type : (Sized → SizedTy → Sized) → List Sized → List SizedTy → Option Made
term_and_type f [] us = None
term_and_type f (a ∷ ts) [] = None
term_and_type f (a ∷ ts) (u ∷ us) = Some (made (f a u ∷ ts) us)

abbrev pub one_type : (SizedTy → SizedTy) → List Sized → List SizedTy → Option Made
one_type f ts [] = None
one_type f ts (u ∷ us) = Some (made ts (f u ∷ us))

abbrev pub two_types : (SizedTy → SizedTy → SizedTy) → List Sized → List SizedTy → Option Made
two_types f ts [] = None
two_types f ts (v ∷ []) = None
two_types f ts (v ∷ u ∷ us) = Some (made ts (f u v ∷ us))

abbrev pub apply_made : Sized → Sized → Sized
apply_made f x = sized (applied_to f.tree x.tree) (suc (max f.depth x.depth))

abbrev pub infix_made : Infix → ℕ → Sized → Sized → Sized
infix_made o at a b = sized (with_two (operator o) at a.tree b.tree) (suc (max a.depth b.depth))

abbrev pub not_made : ℕ → Sized → Sized
not_made at a = sized (applied_to (plain (codes "not") at) a.tree) (suc a.depth)

abbrev pub if_made : ℕ → Sized → Sized → Sized → Sized
if_made at a b c = sized (with_three (codes "If") at a.tree b.tree c.tree) (suc (max a.depth (max b.depth c.depth)))

-- the parentheses count at the end
abbrev pub pair_made : ℕ → Sized → Sized → Sized
pair_made at a b = sized (with_two (codes "Pair") at a.tree b.tree) (max a.depth b.depth)

abbrev pub typed_made : ℕ → Sized → SizedTy → Sized
typed_made at a u = sized (raw_typed a.tree u.tree at) (suc (max a.depth u.depth))

-- the binder counts at the end
abbrev pub abs_made : Binder → List ℕ → ℕ → Sized → Sized
abs_made b x at a = sized (binding b x at None a.tree) (max 1 a.depth)

abbrev pub typed_abs_made : Binder → List ℕ → ℕ → Sized → SizedTy → Sized
typed_abs_made b x at a u = sized (binding b x at (Some u.tree) a.tree) (max (suc u.depth) a.depth)

abbrev pub deeper : Sized → Sized
deeper a = sized a.tree (suc a.depth)

abbrev pub deeper_ty : SizedTy → SizedTy
deeper_ty u = sized_ty u.tree (suc u.depth)

abbrev pub post_made : List ℕ → ℕ → SizedTy → SizedTy
post_made x at u = sized_ty (raw_applied x (raw_more u.tree raw_none) at) (suc u.depth)

abbrev pub ty_infix_made : Infix → ℕ → SizedTy → SizedTy → SizedTy
ty_infix_made o at u v = sized_ty (raw_applied (ty_operator o) (ty_pair u.tree v.tree) at) (suc (max u.depth v.depth))

abbrev pub arg_made : SizedTy → SizedTy → SizedTy
arg_made u v = sized_ty (with_arg u.tree v.tree) (max (suc u.depth) v.depth)

-- a symbol that reads, given the depths of the last term and type, and maybe may be left out; or one that makes
pub data Does : Type 0 where
  reads : (ℕ → ℕ → Word → ℕ → Move) → Bool → Does
  makes : (List Sized → List SizedTy → Option Made) → Does

abbrev pub does : Symbol → Does
does (Term n k) = reads (λ d e. term_move n k) false
does (MoreTerm l n k) = reads (λ d e. more_move l n k d) true
does AfterWhole = reads (λ d e. after_whole_move d) true
does (AfterTerm k) = reads (λ d e. after_term_move k d) false
does (AfterPart k) = reads (λ d e. after_part_move k) false
does (Vars b k) = reads (λ d e. vars_move b k) false
does (MoreVars b k) = reads (λ d e. more_vars_move b k) false
does (VarName b k) = reads (λ d e. var_name_move b k) false
does (Ty n k) = reads (λ d e. ty_move n k) false
does (MoreTy l n k) = reads (λ d e. more_ty_move l n k e) true
does (AfterTy k) = reads (λ d e. after_ty_move k) false
does (AfterArg k) = reads (λ d e. after_arg_move k) false
does ConName = reads (λ d e. con_name_move) false
does WantColons = reads (λ d e w at. colons_move w) false
does WantThen = reads (λ d e w at. then_move w) false
does WantElse = reads (λ d e w at. else_move w) false
does WantClose = reads (λ d e w at. close_move w) false
does (MakeName x at) = makes (λ ts us. Some (made (sized (raw_name x at) 1 ∷ ts) us))
does (MakeNumber i at) = makes (λ ts us. Some (made (sized (numeral_of i at) 1 ∷ ts) us))
does MakeApp = makes (two_terms apply_made)
does (MakeInfix o at) = makes (two_terms (infix_made o at))
does (MakeNot at) = makes (one_term (not_made at))
does (MakeIf at) = makes (three_terms (if_made at))
does (MakePair at) = makes (two_terms (pair_made at))
does (MakeTyped at) = makes (term_and_type (typed_made at))
does (MakeAbs b x at) = makes (one_term (abs_made b x at))
does (MakeTypedAbs b x at) = makes (term_and_type (typed_abs_made b x at))
does Deepen = makes (one_term deeper)
does (MakeTyVar x at) = makes (λ ts us. Some (made ts (sized_ty (raw_variable x at) 1 ∷ us)))
does (MakeCon x at) = makes (λ ts us. Some (made ts (sized_ty (raw_applied x raw_none at) 1 ∷ us)))
does (MakePost x at) = makes (one_type (post_made x at))
does (MakeTyInfix o at) = makes (two_types (ty_infix_made o at))
does MakeArg = makes (two_types arg_made)
does DeepenTy = makes (one_type deeper_ty)

-- the fewest words that a symbol still reads
abbrev pub least : Symbol → ℕ
least (Term n k) = 1
least (AfterTerm k) = 1
least (AfterPart k) = 1
least (Vars b k) = 3
least (MoreVars b k) = 2
least (VarName b k) = 6
least (Ty n k) = 1
least (AfterTy k) = 1
least (AfterArg k) = 2
least ConName = 1
least WantColons = 1
least WantThen = 1
least WantElse = 1
least WantClose = 1
least _ = 0

abbrev pub owed : List Symbol → ℕ
owed [] = 0
owed (s ∷ ss) = least s + owed ss

pub record State : Type 0 where
  pub todo : List Symbol
  pub terms : List Sized
  pub types : List SizedTy

abbrev pub state : List Symbol → List Sized → List SizedTy → State
state ss ts us = record { todo = ss; terms = ts; types = us }

-- it goes on; or no term or type goes on so; or none within the depth
pub data Out : Type 0 where
  on : State → Out
  refused : Out
  too_deep : Out

abbrev pub top_depth : List Sized → ℕ
top_depth [] = 0
top_depth (t ∷ ts) = t.depth

abbrev pub top_ty_depth : List SizedTy → ℕ
top_ty_depth [] = 0
top_ty_depth (u ∷ us) = u.depth

abbrev pub moved : Option ℕ → Move → Out → List Symbol → List Sized → List SizedTy → Out
moved l (takes d these) without ss ts us = cond (keeps l d) (on (state (these ++ ss) ts us)) too_deep
moved l passes without ss ts us = without
moved l stops without ss ts us = refused

abbrev pub when_made : (List Sized → List SizedTy → Out) → Option Made → Out
when_made f None = refused
when_made f (Some m) = f m.terms m.types

abbrev pub does_step : Option ℕ → Does → (List Sized → List SizedTy → Out) → List Symbol → List Sized → List SizedTy → Placed → Out
does_step l (reads f b) without ss ts us a = moved l (f (top_depth ts) (top_ty_depth us) a.word a.at) (without ts us) ss ts us
does_step l (makes f) without ss ts us a = when_made without (f ts us)

-- what becomes of a word, within a limit of depth
abbrev pub step : Option ℕ → Placed → List Symbol → List Sized → List SizedTy → Out
step l a [] ts us = refused
step l a (s ∷ ss) ts us = does_step l (does s) (step l a ss) ss ts us a

abbrev pub does_finish : Does → (List Sized → List SizedTy → Option Made) → List Sized → List SizedTy → Option Made
does_finish (reads f b) rest ts us = cond b (rest ts us) None
does_finish (makes f) rest ts us = option_and_then (λ m. rest m.terms m.types) (f ts us)

abbrev pub finish : List Symbol → List Sized → List SizedTy → Option Made
finish [] ts us = Some (made ts us)
finish (s ∷ ss) ts us = does_finish (does s) (finish ss) ts us

abbrev pub whole : List Sized → List SizedTy → Option Tree
whole (t ∷ []) [] = Some (a_term t.tree)
whole [] (u ∷ []) = Some (a_type u.tree)
whole _ _ = None

-- the tree, where the words may end
abbrev pub ended : State → Option Tree
ended s = option_and_then (λ m. whole m.terms m.types) (finish s.todo s.terms s.types)

abbrev pub then_out : (State → Out) → Out → Out
then_out f (on s) = f s
then_out f refused = refused
then_out f too_deep = too_deep

abbrev pub run : Option ℕ → State → List Placed → Out
run l s [] = on s
run l s (a ∷ tokens) = then_out (λ next. run l next tokens) (step l a s.todo s.terms s.types)

abbrev pub out_ended : Out → Option Tree
out_ended (on s) = ended s
out_ended refused = None
out_ended too_deep = None

abbrev pub goes : Option ℕ → List Symbol → List Sized → List SizedTy → List Placed → Option Tree
goes l ss ts us tokens = out_ended (run l (state ss ts us) tokens)

abbrev pub start : Kind → State
start TermKind = state (Term 0 0 ∷ AfterWhole ∷ []) [] []
start TypeKind = state (Ty 1 0 ∷ []) [] []

abbrev pub makes_so : Does → List Sized → List SizedTy → Option Made
makes_so (reads f b) ts us = None
makes_so (makes f) ts us = f ts us

abbrev pub reads_so : Does → ℕ → ℕ → Word → ℕ → Option Move
reads_so (reads f b) d e w at = Some (f d e w at)
reads_so (makes f) d e w at = None

abbrev pub may_end : Symbol → Bool
may_end (MoreTerm l n k) = true
may_end (MoreTy l n k) = true
may_end AfterWhole = true
may_end _ = false

-- the number that a word is, or 0
abbrev pub number_in : Word → ℕ
number_in (Number n) = n
number_in _ = 0

-- what becomes of a word after so many, within all limits
pub data Verdict : Type 0 where
  goes_on : State → Verdict
  is_refused : Verdict
  is_too_deep : Verdict
  is_too_large : Verdict
  has_large_number : Verdict

abbrev pub judged : Limits → ℕ → Placed → Out → Verdict
judged l w a refused = is_refused
judged l w a too_deep = is_too_deep
judged l w a (on s) = cond (keeps l.size (w + 1 + owed s.todo)) (cond (keeps l.number (number_in a.word)) (goes_on s) has_large_number) is_too_large
