-- What is a text of a term, of a statement and of a file of definitions, and the first place at which bytes are none.
use Rattle.std.specs.Prelude.{◌≡◌, ◌≤◌, ◌<◌, ◌+◌, ◌-◌, ℕ, suc, cond, List, [], ◌∷◌, ◌++◌, length, take, ◌==◌}
use Rattle.fp_term.specs.Names.{is_part_byte}
use Rattle.fp_term.specs.Terms.{Tm}
use Rattle.fp_full.specs.Tokens.{Placed, tokens_of, Layout}
use Rattle.fp_full.specs.Grammar.{shown, shown_statement, IsNamed, AreNamed, Entry, AreEntries, SpellsAll}

-- what is read: a term, a statement, or the definitions of a file
pub data Kind : Type 0 where
  of_term : Kind
  of_statement : Kind
  of_file : Kind

pub data Parsed : Type 0 where
  a_term : Tm → Parsed
  a_statement : List Tm → Tm → Parsed
  entries : List Entry → Parsed

abbrev pub kind_of : Parsed → Kind
kind_of (a_term t) = of_term
kind_of (a_statement hyps concl) = of_statement
kind_of (entries es) = of_file

abbrev pub Spells : Parsed → List Placed → Type 0
Spells (a_term t) tokens = tokens_of tokens ≡ shown t []
Spells (a_statement hyps concl) tokens = tokens_of tokens ≡ shown_statement hyps concl
Spells (entries es) tokens = SpellsAll es tokens

abbrev pub IsWell : Parsed → Type 0
IsWell (a_term t) = IsNamed t
IsWell (a_statement hyps concl) = AreNamed hyps × IsNamed concl
IsWell (entries es) = AreEntries es

-- the bytes are a text of it
pub record IsText (bytes : List ℕ) (p : Parsed) : Type 0 where
  pub well : IsWell p
  pub tokens : List Placed
  pub spells : Spells p tokens
  pub laid : Layout 0 tokens bytes

-- some text of that kind begins with these bytes, the limits below aside
pub record Begins (kind : Kind) (bytes : List ℕ) : Type 0 where
  pub parsed : Parsed
  pub of_kind : kind_of parsed ≡ kind
  pub further : List ℕ
  pub text : IsText (bytes ++ further) parsed

-- the first place up to which no text of that kind begins with the bytes, or the end where the text ends early
pub record FirstBad (kind : Kind) (bytes : List ℕ) (at : ℕ) : Type 0 where
  pub within : at ≤ length bytes
  pub good : Begins kind (take at bytes)
  pub bad : at < length bytes → Begins kind (take (at + 1) bytes) → ⊥
  pub early : at ≡ length bytes → (p : Parsed) → kind_of p ≡ kind → IsText bytes p → ⊥

-- one more parenthesis, or one less
abbrev pub opened_by : ℕ → ℕ → ℕ
opened_by n b = cond (b == 40) (suc n) (cond (b == 41) (n - 1) n)

-- how many parentheses are open after these bytes, where so many were before
abbrev pub open_after : ℕ → List ℕ → ℕ
open_after n [] = n
open_after n (b ∷ bs) = open_after (opened_by n b) bs

-- the word that the bytes end in, where they came after the start of one
abbrev pub word_after : List ℕ → List ℕ → List ℕ
word_after w [] = w
word_after w (b ∷ bs) = word_after (cond (is_part_byte b) (w ++ b ∷ []) []) bs

-- the bytes of a word, an apostrophe at its front aside
abbrev pub letters : List ℕ → ℕ
letters [] = 0
letters (b ∷ bs) = cond (b == 39) (length bs) (suc (length bs))

-- the limits: at most 200 parentheses are open at once, and no name has more than 64 bytes
pub record IsWithin (bytes : List ℕ) : Type 0 where
  pub shallow : open_after 0 bytes ≤ 200
  pub short : letters (word_after [] bytes) ≤ 64

-- the first n bytes keep the limits
abbrev pub KeepsLimits : List ℕ → ℕ → Type 0
KeepsLimits bytes n = (k : ℕ) → k ≤ n → IsWithin (take k bytes)

-- the place of the first parenthesis that is open beside 200 others
pub record FirstTooDeep (kind : Kind) (bytes : List ℕ) (at : ℕ) : Type 0 where
  pub within : at < length bytes
  pub begins : Begins kind (take (at + 1) bytes)
  pub keeps : KeepsLimits bytes at
  pub deep : 200 < open_after 0 (take (at + 1) bytes)

-- the place of the first name with more than 64 bytes, of which the 65th stands last
pub record FirstTooLong (kind : Kind) (bytes : List ℕ) (at : ℕ) : Type 0 where
  pub last : ℕ
  pub within : last < length bytes
  pub begins : Begins kind (take (last + 1) bytes)
  pub keeps : KeepsLimits bytes last
  pub long : 64 < letters (word_after [] (take (last + 1) bytes))
  pub starts : at + length (word_after [] (take (last + 1) bytes)) ≡ last + 1
