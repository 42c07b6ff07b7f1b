-- The grammar of terms and types: what is written, one case a production, its words, the tree that it stands for, and its limits.
use Rattle.std.specs.Prelude.{◌≡◌, ◌≤◌, ◌<◌, ◌+◌, ℕ, suc, max, List, [], ◌∷◌, ◌++◌, length, take, Option, Some, None}
use Rattle.fp_words.specs.declared.word.Infix.{Infix}
use Rattle.fp_words.specs.declared.word.Infix.TheVariants.{Implies, Disj, Conj, Equal, Less, Leq, Plus, Minus, Times, Arrow}
use Rattle.fp_words.specs.declared.word.Binder.{Binder}
use Rattle.fp_words.specs.declared.word.Word.{Word}
use Rattle.fp_words.specs.declared.word.Word.TheVariants.{Name, TyVar, Number, Between, Negation, Binds, Dot, Comma, Open, Close, Colons, If, Then, Else}
use Rattle.fp_words.specs.declared.word.Placed.{Placed}
use Rattle.fp_written.specs.declared.kinds.Kind.{Kind}
use Rattle.fp_written.specs.declared.kinds.Kind.TheVariants.{Term as TermKind, Ty as TypeKind}
use Rattle.fp_written.specs.declared.kinds.Limits.{Limits}
use Rattle.fp_raw.specs.Raws.{RawTyp, raw_variable, raw_applied, RawTyps, raw_none, raw_more, RawTm, raw_name, raw_typed}
use Rattle.fp_written.specs.Trees.{ty_operator, ty_pair, applied_to, plain, with_two, with_three, operator, numeral_of, binding}
use Rattle.std.specs.Prelude.{codes}

-- a written type
mutual
  pub data WType : Type 0 where
    variable : List ℕ → ℕ → WType
    constant : List ℕ → ℕ → WType
    postfix : WType → List ℕ → ℕ → WType
    between_types : WType → Infix → ℕ → WType → WType
    round : ℕ → WType → ℕ → WType
    -- (T1, .., Tn) c, with n at least 2
    applied : ℕ → WType → WArgs → List ℕ → ℕ → WType

  -- , T2, .., Tn )
  pub data WArgs : Type 0 where
    last_arg : ℕ → WType → ℕ → WArgs
    next_arg : ℕ → WType → WArgs → WArgs

abbrev pub tok : Word → ℕ → Placed
tok w at = record { word = w; at = at }

abbrev mutual
  pub type_tokens : WType → List Placed
  type_tokens (variable n at) = tok (TyVar n) at ∷ []
  type_tokens (constant n at) = tok (Name n) at ∷ []
  type_tokens (postfix t n at) = type_tokens t ++ tok (Name n) at ∷ []
  type_tokens (between_types a o at b) = type_tokens a ++ tok (Between o) at ∷ type_tokens b
  type_tokens (round p t q) = tok Open p ∷ (type_tokens t ++ tok Close q ∷ [])
  type_tokens (applied p t args n at) = tok Open p ∷ (type_tokens t ++ (arg_tokens args ++ tok (Name n) at ∷ []))

  pub arg_tokens : WArgs → List Placed
  arg_tokens (last_arg p t q) = tok Comma p ∷ (type_tokens t ++ tok Close q ∷ [])
  arg_tokens (next_arg p t args) = tok Comma p ∷ (type_tokens t ++ arg_tokens args)

-- the level of an operator of types, and what its left side needs; no type has the operators that are left
abbrev pub ty_level : Infix → ℕ
ty_level Arrow = 1
ty_level Plus = 2
ty_level Times = 3
ty_level _ = 0

abbrev pub ty_left : Infix → ℕ
ty_left Arrow = 2
ty_left Plus = 3
ty_left Times = 4
ty_left _ = 9

abbrev pub level_of_type : WType → ℕ
level_of_type (variable n at) = 5
level_of_type (constant n at) = 5
level_of_type (postfix t n at) = 4
level_of_type (between_types a o at b) = ty_level o
level_of_type (round p t q) = 5
level_of_type (applied p t args n at) = 5

-- each part has the level that its place needs
abbrev mutual
  pub IsType : WType → Type 0
  IsType (variable n at) = Unit {0}
  IsType (constant n at) = Unit {0}
  IsType (postfix t n at) = IsType t × (4 ≤ level_of_type t)
  IsType (between_types a o at b) = IsType a × IsType b × (ty_left o ≤ level_of_type a) × (ty_level o ≤ level_of_type b)
  IsType (round p t q) = IsType t × (1 ≤ level_of_type t)
  IsType (applied p t args n at) = IsType t × (1 ≤ level_of_type t) × AreArgs args

  pub AreArgs : WArgs → Type 0
  AreArgs (last_arg p t q) = IsType t × (1 ≤ level_of_type t)
  AreArgs (next_arg p t args) = IsType t × (1 ≤ level_of_type t) × AreArgs args

abbrev mutual
  pub raw_type : WType → RawTyp
  raw_type (variable n at) = raw_variable n at
  raw_type (constant n at) = raw_applied n raw_none at
  raw_type (postfix t n at) = raw_applied n (raw_more (raw_type t) raw_none) at
  raw_type (between_types a o at b) = raw_applied (ty_operator o) (ty_pair (raw_type a) (raw_type b)) at
  raw_type (round p t q) = raw_type t
  raw_type (applied p t args n at) = raw_applied n (raw_more (raw_type t) (raw_args args)) at

  pub raw_args : WArgs → RawTyps
  raw_args (last_arg p t q) = raw_more (raw_type t) raw_none
  raw_args (next_arg p t args) = raw_more (raw_type t) (raw_args args)

-- a variable or a name has depth 1; each other form, and each pair of parentheses, is one deeper than its deepest part
abbrev mutual
  pub depth_of_type : WType → ℕ
  depth_of_type (variable n at) = 1
  depth_of_type (constant n at) = 1
  depth_of_type (postfix t n at) = suc (depth_of_type t)
  depth_of_type (between_types a o at b) = suc (max (depth_of_type a) (depth_of_type b))
  depth_of_type (round p t q) = suc (depth_of_type t)
  depth_of_type (applied p t args n at) = suc (max (depth_of_type t) (depth_of_args args))

  pub depth_of_args : WArgs → ℕ
  depth_of_args (last_arg p t q) = depth_of_type t
  depth_of_args (next_arg p t args) = max (depth_of_type t) (depth_of_args args)

-- a bound variable: x, or ( x :: T )
pub data WVar : Type 0 where
  only_name : List ℕ → ℕ → WVar
  typed_var : ℕ → List ℕ → ℕ → ℕ → WType → ℕ → WVar

-- a written term
mutual
  pub data WTerm : Type 0 where
    named : List ℕ → ℕ → WTerm
    numeral : ℕ → ℕ → WTerm
    application : WTerm → WTerm → WTerm
    between : WTerm → Infix → ℕ → WTerm → WTerm
    negated : ℕ → WTerm → WTerm
    bound : Binder → ℕ → WVars → WTerm
    choice : ℕ → WTerm → ℕ → WTerm → ℕ → WTerm → WTerm
    parens : ℕ → WTerm → ℕ → WTerm
    typed : ℕ → WTerm → ℕ → WType → ℕ → WTerm
    -- (t1, .., tn), with n at least 2
    tuple : ℕ → WTerm → WParts → WTerm

  -- , t2, .., tn )
  pub data WParts : Type 0 where
    last_part : ℕ → WTerm → ℕ → WParts
    next_part : ℕ → WTerm → WParts → WParts

  -- x1 .. xn . t
  pub data WVars : Type 0 where
    last_var : WVar → ℕ → WTerm → WVars
    next_var : WVar → WVars → WVars

abbrev pub var_tokens : WVar → List Placed
var_tokens (only_name n at) = tok (Name n) at ∷ []
var_tokens (typed_var p n at c t q) = tok Open p ∷ tok (Name n) at ∷ tok Colons c ∷ (type_tokens t ++ tok Close q ∷ [])

abbrev mutual
  pub term_tokens : WTerm → List Placed
  term_tokens (named n at) = tok (Name n) at ∷ []
  term_tokens (numeral k at) = tok (Number k) at ∷ []
  term_tokens (application f x) = term_tokens f ++ term_tokens x
  term_tokens (between a o at b) = term_tokens a ++ tok (Between o) at ∷ term_tokens b
  term_tokens (negated at a) = tok Negation at ∷ term_tokens a
  term_tokens (bound b at vars) = tok (Binds b) at ∷ vars_tokens vars
  term_tokens (choice p a q b r c) = tok If p ∷ (term_tokens a ++ tok Then q ∷ (term_tokens b ++ tok Else r ∷ term_tokens c))
  term_tokens (parens p a q) = tok Open p ∷ (term_tokens a ++ tok Close q ∷ [])
  term_tokens (typed p a c t q) = tok Open p ∷ (term_tokens a ++ tok Colons c ∷ (type_tokens t ++ tok Close q ∷ []))
  term_tokens (tuple p a parts) = tok Open p ∷ (term_tokens a ++ part_tokens parts)

  pub part_tokens : WParts → List Placed
  part_tokens (last_part p a q) = tok Comma p ∷ (term_tokens a ++ tok Close q ∷ [])
  part_tokens (next_part p a parts) = tok Comma p ∷ (term_tokens a ++ part_tokens parts)

  pub vars_tokens : WVars → List Placed
  vars_tokens (last_var x at a) = var_tokens x ++ tok Dot at ∷ term_tokens a
  vars_tokens (next_var x vars) = var_tokens x ++ vars_tokens vars

abbrev pub level : Infix → ℕ
level Implies = 1
level Disj = 2
level Conj = 3
level Equal = 5
level Less = 5
level Leq = 5
level Plus = 6
level Minus = 6
level Times = 7
level Arrow = 0

abbrev pub left : Infix → ℕ
left Implies = 2
left Disj = 3
left Conj = 4
left Equal = 6
left Less = 6
left Leq = 6
left Plus = 6
left Minus = 6
left Times = 7
left Arrow = 20

abbrev pub right : Infix → ℕ
right Implies = 1
right Disj = 2
right Conj = 3
right Equal = 6
right Less = 6
right Leq = 6
right Plus = 7
right Minus = 7
right Times = 8
right Arrow = 9

abbrev pub level_of : WTerm → ℕ
level_of (named n at) = 9
level_of (numeral k at) = 9
level_of (application f x) = 8
level_of (between a o at b) = level o
level_of (negated at a) = 4
level_of (bound b at vars) = 0
level_of (choice p a q b r c) = 0
level_of (parens p a q) = 9
level_of (typed p a c t q) = 9
level_of (tuple p a parts) = 9

abbrev pub IsVar : WVar → Type 0
IsVar (only_name n at) = Unit {0}
IsVar (typed_var p n at c t q) = IsType t × (1 ≤ level_of_type t)

-- at most the limit, if there is one
abbrev pub Keeps : Option ℕ → ℕ → Type 0
Keeps None n = Unit {0}
Keeps (Some m) n = n ≤ m

-- the number that a word is, if it is one, is at most the limit
abbrev pub NumberKeeps : Option ℕ → Word → Type 0
NumberKeeps v (Number n) = Keeps v n
NumberKeeps v _ = Unit {0}

abbrev pub NumbersKeep : Option ℕ → List Placed → Type 0
NumbersKeep v [] = Unit {0}
NumbersKeep v (a ∷ tokens) = NumberKeeps v a.word × NumbersKeep v tokens

-- each part has the level that its place needs
abbrev mutual
  pub IsTerm : WTerm → Type 0
  IsTerm (named n at) = Unit {0}
  IsTerm (numeral k at) = Unit {0}
  IsTerm (application f x) = IsTerm f × IsTerm x × (8 ≤ level_of f) × (9 ≤ level_of x)
  IsTerm (between a o at b) = IsTerm a × IsTerm b × (left o ≤ level_of a) × (right o ≤ level_of b)
  IsTerm (negated at a) = IsTerm a × (4 ≤ level_of a)
  IsTerm (bound b at vars) = AreVars vars
  IsTerm (choice p a q b r c) = IsTerm a × IsTerm b × IsTerm c
  IsTerm (parens p a q) = IsTerm a
  IsTerm (typed p a c t q) = IsTerm a × IsType t × (1 ≤ level_of_type t)
  IsTerm (tuple p a parts) = IsTerm a × AreParts parts

  pub AreParts : WParts → Type 0
  AreParts (last_part p a q) = IsTerm a
  AreParts (next_part p a parts) = IsTerm a × AreParts parts

  pub AreVars : WVars → Type 0
  AreVars (last_var x at a) = IsVar x × IsTerm a
  AreVars (next_var x vars) = IsVar x × AreVars vars

-- a typed variable is one form over its name and its type
abbrev pub depth_of_var : WVar → ℕ
depth_of_var (only_name n at) = 1
depth_of_var (typed_var p n at c t q) = suc (depth_of_type t)

-- a name or a numeral has depth 1; each other form, and each pair of parentheses round one term, is one deeper than its deepest part
abbrev mutual
  pub depth_of : WTerm → ℕ
  depth_of (named n at) = 1
  depth_of (numeral k at) = 1
  depth_of (application f x) = suc (max (depth_of f) (depth_of x))
  depth_of (between a o at b) = suc (max (depth_of a) (depth_of b))
  depth_of (negated at a) = suc (depth_of a)
  depth_of (bound b at vars) = suc (depth_of_vars vars)
  depth_of (choice p a q b r c) = suc (max (depth_of a) (max (depth_of b) (depth_of c)))
  depth_of (parens p a q) = suc (depth_of a)
  depth_of (typed p a c t q) = suc (suc (max (depth_of a) (depth_of_type t)))
  depth_of (tuple p a parts) = suc (max (depth_of a) (depth_of_parts parts))

  pub depth_of_parts : WParts → ℕ
  depth_of_parts (last_part p a q) = depth_of a
  depth_of_parts (next_part p a parts) = max (depth_of a) (depth_of_parts parts)

  pub depth_of_vars : WVars → ℕ
  depth_of_vars (last_var x at a) = max (depth_of_var x) (depth_of a)
  depth_of_vars (next_var x vars) = max (depth_of_var x) (depth_of_vars vars)

abbrev pub bind_var : Binder → WVar → RawTm → RawTm
bind_var b (only_name n at) body = binding b n at None body
bind_var b (typed_var p n at c t q) body = binding b n at (Some (raw_type t)) body

abbrev mutual
  pub raw : WTerm → RawTm
  raw (named n at) = raw_name n at
  raw (numeral k at) = numeral_of k at
  raw (application f x) = applied_to (raw f) (raw x)
  raw (between a o at b) = with_two (operator o) at (raw a) (raw b)
  raw (negated at a) = applied_to (plain (codes "not") at) (raw a)
  raw (bound b at vars) = raw_vars b vars
  raw (choice p a q b r c) = with_three (codes "If") p (raw a) (raw b) (raw c)
  raw (parens p a q) = raw a
  raw (typed p a c t q) = raw_typed (raw a) (raw_type t) c
  raw (tuple p a parts) = raw_parts (raw a) parts

  pub raw_parts : RawTm → WParts → RawTm
  raw_parts first (last_part p a q) = with_two (codes "Pair") p first (raw a)
  raw_parts first (next_part p a parts) = with_two (codes "Pair") p first (raw_parts (raw a) parts)

  pub raw_vars : Binder → WVars → RawTm
  raw_vars b (last_var x at a) = bind_var b x (raw a)
  raw_vars b (next_var x vars) = bind_var b x (raw_vars b vars)

-- what stands in quotes, or in brackets: a term, a term with its type, or a type
pub data WWhole : Type 0 where
  whole_term : WTerm → WWhole
  whole_typed : WTerm → ℕ → WType → WWhole
  whole_type : WType → WWhole

pub data Tree : Type 0 where
  a_term : RawTm → Tree
  a_type : RawTyp → Tree

abbrev pub kind_of : WWhole → Kind
kind_of (whole_term t) = TermKind
kind_of (whole_typed t c u) = TermKind
kind_of (whole_type u) = TypeKind

abbrev pub whole_tokens : WWhole → List Placed
whole_tokens (whole_term t) = term_tokens t
whole_tokens (whole_typed t c u) = term_tokens t ++ tok Colons c ∷ type_tokens u
whole_tokens (whole_type u) = type_tokens u

abbrev pub IsWhole : WWhole → Type 0
IsWhole (whole_term t) = IsTerm t
IsWhole (whole_typed t c u) = IsTerm t × IsType u × (1 ≤ level_of_type u)
IsWhole (whole_type u) = IsType u × (1 ≤ level_of_type u)

abbrev pub depth_of_whole : WWhole → ℕ
depth_of_whole (whole_term t) = depth_of t
depth_of_whole (whole_typed t c u) = suc (max (depth_of t) (depth_of_type u))
depth_of_whole (whole_type u) = depth_of_type u

abbrev pub tree_of : WWhole → Tree
tree_of (whole_term t) = a_term (raw t)
tree_of (whole_typed t c u) = a_term (raw_typed (raw t) (raw_type u) c)
tree_of (whole_type u) = a_type (raw_type u)

-- THE DEFINITION: the words are a term or type within the limits that stands for this tree
pub record Reads (limits : Limits) (kind : Kind) (tokens : List Placed) (tree : Tree) : Type 0 where
  pub what : WWhole
  pub of_kind : kind_of what ≡ kind
  pub written : IsWhole what
  pub shallow : Keeps limits.depth (depth_of_whole what)
  pub short : Keeps limits.size (length tokens)
  pub small : NumbersKeep limits.number tokens
  pub spelled : whole_tokens what ≡ tokens
  pub stands : tree_of what ≡ tree

-- some such term or type begins with these words
pub record Begins (limits : Limits) (kind : Kind) (tokens : List Placed) : Type 0 where
  pub tree : Tree
  pub more_tokens : List Placed
  pub reads : Reads limits kind (tokens ++ more_tokens) tree

abbrev pub no_limits : Limits
no_limits = record { depth = None; size = None; number = None }

-- the limits up to the one that is broken
abbrev pub depth_only : Limits → Limits
depth_only l = record { depth = l.depth; size = None; number = None }

abbrev pub depth_and_size : Limits → Limits
depth_and_size l = record { depth = l.depth; size = l.size; number = None }

-- the words before that place begin some within all limits; with that word none does, without any limit; or they end there early
pub record FirstBad (limits : Limits) (kind : Kind) (tokens : List Placed) (at : ℕ) : Type 0 where
  pub within : at ≤ length tokens
  pub good : Begins limits kind (take at tokens)
  pub bad : at < length tokens → Begins no_limits kind (take (at + 1) tokens) → ⊥
  pub early : at ≡ length tokens → (tree : Tree) → Reads no_limits kind tokens tree → ⊥

-- the words before that place begin some within all limits; with that word some do within the limits before this one, and none within it
pub record FirstPast (all earlier this : Limits) (kind : Kind) (tokens : List Placed) (at : ℕ) : Type 0 where
  pub within : at < length tokens
  pub good : Begins all kind (take at tokens)
  pub still : Begins earlier kind (take (at + 1) tokens)
  pub past : Begins this kind (take (at + 1) tokens) → ⊥
