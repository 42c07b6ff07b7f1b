-- The full form of types, terms and statements: its tokens.
use Rattle.std.specs.Prelude.{◌≡◌, ◌<◌, ◌^◌, ℕ, Bool, true, false, ◌||◌, List, [], ◌∷◌, ◌++◌, codes}
use Rattle.std.specs.Str.{bytes_eq}
use Rattle.std.specs.Fmt.{decimal}
use Rattle.fp_term.specs.Names.{is_name}
use Rattle.fp_term.specs.Types.{Typ, Typs, variable, applied, none, more}
use Rattle.fp_term.specs.Terms.{Tm, bound, free, constant, app, abs}
use Rattle.fp_full.specs.Tokens.{Token, left, right, equals, brace_left, brace_right, word, Placed, tokens_of}

-- the tokens of a type, and then the rest
abbrev mutual
  pub shown_type : Typ → List Token → List Token
  shown_type (variable name) rest = word (39 ∷ name) ∷ rest
  shown_type (applied name args) rest = left ∷ word name ∷ shown_types args (right ∷ rest)

  pub shown_types : Typs → List Token → List Token
  shown_types none rest = rest
  shown_types (more t ts) rest = shown_type t (shown_types ts rest)

-- the tokens of a term, and then the rest
abbrev pub shown : Tm → List Token → List Token
shown (bound n) rest = left ∷ word (codes "b") ∷ word (decimal n) ∷ right ∷ rest
shown (free name s) rest = left ∷ word (codes "v") ∷ word name ∷ shown_type s (right ∷ rest)
shown (constant name s) rest = left ∷ word (codes "c") ∷ word name ∷ shown_type s (right ∷ rest)
shown (app f x) rest = left ∷ word (codes "a") ∷ shown f (shown x (right ∷ rest))
shown (abs s x) rest = left ∷ word (codes "l") ∷ shown_type s (shown x (right ∷ rest))

abbrev pub shown_all : List Tm → List Token → List Token
shown_all [] rest = rest
shown_all (t ∷ ts) rest = shown t (shown_all ts rest)

-- the tokens of a statement
abbrev pub shown_statement : List Tm → Tm → List Token
shown_statement hyps concl = left ∷ word (codes "s") ∷ left ∷ word (codes "h") ∷ shown_all hyps (right ∷ shown concl (right ∷ []))

-- each name has its form, and each number is below 2^32
abbrev mutual
  pub IsNamedType : Typ → Type 0
  IsNamedType (variable name) = is_name name ≡ true
  IsNamedType (applied name args) = (is_name name ≡ true) × AreNamedTypes args

  pub AreNamedTypes : Typs → Type 0
  AreNamedTypes none = Unit {0}
  AreNamedTypes (more t ts) = IsNamedType t × AreNamedTypes ts

abbrev pub IsNamed : Tm → Type 0
IsNamed (bound n) = n < 2 ^ 32
IsNamed (free name s) = (is_name name ≡ true) × IsNamedType s
IsNamed (constant name s) = (is_name name ≡ true) × IsNamedType s
IsNamed (app f x) = IsNamed f × IsNamed x
IsNamed (abs s x) = IsNamedType s × IsNamed x

abbrev pub AreNamed : List Tm → Type 0
AreNamed [] = Unit {0}
AreNamed (t ∷ ts) = IsNamed t × AreNamed ts

-- the words that name no constant in a file
abbrev pub is_reserved : List ℕ → Bool
is_reserved w =
    bytes_eq w (codes "definition") || bytes_eq w (codes "typedef") || bytes_eq w (codes "lemma") || bytes_eq w (codes "simp") || bytes_eq w (codes "cong")
    || bytes_eq w (codes "constructors") || bytes_eq w (codes "size") || bytes_eq w (codes "measure") || bytes_eq w (codes "fun") || bytes_eq w (codes "function")
    || bytes_eq w (codes "and") || bytes_eq w (codes "where") || bytes_eq w (codes "proof") || bytes_eq w (codes "end") || bytes_eq w (codes "abs")
    || bytes_eq w (codes "rep") || bytes_eq w (codes "by") || bytes_eq w (codes "if") || bytes_eq w (codes "then") || bytes_eq w (codes "else")

-- a definition of a file: the places of its first word and of its opening brace, its name and its term
pub record Entry : Type 0 where
  pub at : ℕ
  pub brace : ℕ
  pub name : List ℕ
  pub term : Tm

pub record IsEntry (e : Entry) : Type 0 where
  pub named : is_name e.name ≡ true
  pub allowed : is_reserved e.name ≡ false
  pub terms : IsNamed e.term

abbrev pub AreEntries : List Entry → Type 0
AreEntries [] = Unit {0}
AreEntries (e ∷ es) = IsEntry e × AreEntries es

-- the tokens are `definition NAME = {TERM}`, and then the rest
pub record SpellsEntry (e : Entry) (tokens rest : List Placed) : Type 0 where
  pub name_at : ℕ
  pub equals_at : ℕ
  pub close_at : ℕ
  pub inner : List Placed
  pub split : tokens ≡ record { token = word (codes "definition"); at = e.at } ∷ record { token = word e.name; at = name_at }
      ∷ record { token = equals; at = equals_at } ∷ record { token = brace_left; at = e.brace } ∷ (inner ++ record { token = brace_right; at = close_at } ∷ rest)
  pub term : tokens_of inner ≡ shown e.term []

abbrev pub SpellsAll : List Entry → List Placed → Type 0
SpellsAll [] tokens = tokens ≡ []
SpellsAll (e ∷ es) tokens = (rest : List Placed) × SpellsEntry e tokens rest × SpellsAll es rest
