-- The words of tokens: those that are reserved, numbers, symbols, and what stands in braces.
use Rattle.std.specs.Prelude.{◌≡◌, ℕ, ◌+◌, ◌-◌, ◌*◌, min, cond, Bool, true, false, List, [], ◌∷◌, length, take, drop, codes, Option, Some, None}
use Rattle.std.specs.Str.{bytes_eq}
use Rattle.fp_term.specs.Terms.{Tm}
use Rattle.fp_raw.specs.Raws.{RawTm, full}
use Rattle.fp_full.specs.Texts.{a_term, IsText, KeepsLimits}
use Rattle.fp_lex.specs.declared.token.TokenKind.{TokenKind}
use Rattle.fp_lex.specs.declared.token.TokenKind.TheVariants.{Name as name_token, TyVar as variable_token, Number as number_token, Quote as quote_token, Braces as braces_token, Symbol as symbol_token}
use Rattle.fp_lex.specs.declared.token.Token.{Token}
use Rattle.fp_lex.specs.Lexes.{quoted_after}
use Rattle.fp_words.specs.declared.word.Infix.TheVariants.{Implies, Disj, Conj, Equal, Less, Leq, Plus, Minus, Times, Arrow}
use Rattle.fp_words.specs.declared.word.Binder.TheVariants.{Lambda, All, Some as Exists, Select}
use Rattle.fp_words.specs.declared.word.Keyword.{Keyword}
use Rattle.fp_words.specs.declared.word.Keyword.TheVariants.{Definition, Typedef, Lemma, Simp, Cong, Constructors, Size, Measure, Fun, Function, And, Where, Proof, End, Abs, Rep, By}
use Rattle.fp_words.specs.declared.word.Braces.{Braces as Inside}
use Rattle.fp_words.specs.declared.word.Braces.TheVariants.{Full, Malformed, TooDeep, NameTooLong}
use Rattle.fp_words.specs.declared.word.Word.{Word}
use Rattle.fp_words.specs.declared.word.Word.TheVariants.{Name, TyVar, Number, Quote, Braces, Between, Negation, Binds, Dot, Comma, Open, Close, Colons, Colon, Bar, Semicolon, OpenBracket, CloseBracket, If, Then, Else, Reserved}
use Rattle.fp_words.specs.declared.word.Placed.{Placed}

-- what a table has for a text
abbrev pub spelled : {T : Type 0} → List (List ℕ × T) → List ℕ → Option T
spelled [] t = None
spelled (row ∷ rows) t = cond (bytes_eq t row.0) (Some row.1) (spelled rows t)

-- reserved everywhere
abbrev pub everywhere : List (List ℕ × Word)
everywhere = (codes "if", If) ∷ (codes "then", Then) ∷ (codes "else", Else) ∷ []

abbrev pub always : List ℕ → Option Word
always t = spelled everywhere t

-- reserved outside quotes
abbrev pub keyword : List ℕ → Option Keyword
keyword t =
    spelled
    ((codes "definition", Definition) ∷ (codes "typedef", Typedef) ∷ (codes "lemma", Lemma) ∷ (codes "simp", Simp) ∷ (codes "cong", Cong) ∷ (codes "constructors", Constructors)
    ∷ (codes "size", Size) ∷ (codes "measure", Measure) ∷ (codes "fun", Fun) ∷ (codes "function", Function) ∷ (codes "and", And) ∷ (codes "where", Where)
    ∷ (codes "proof", Proof) ∷ (codes "end", End) ∷ (codes "abs", Abs) ∷ (codes "rep", Rep) ∷ (codes "by", By) ∷ []) t

abbrev pub symbols : List (List ℕ × Word)
symbols =
    (codes "-->", Between Implies) ∷ (codes "\\/", Between Disj) ∷ (codes "/\\", Between Conj) ∷ (codes "::", Colons) ∷ (codes "=>", Between Arrow) ∷ (codes "<=", Between Leq)
    ∷ (codes "<", Between Less) ∷ (codes "=", Between Equal) ∷ (codes "+", Between Plus) ∷ (codes "-", Between Minus) ∷ (codes "*", Between Times) ∷ (codes "~", Negation)
    ∷ (codes "!", Binds All) ∷ (codes "?", Binds Exists) ∷ (codes "@", Binds Select) ∷ (codes "%", Binds Lambda) ∷ (codes ".", Dot) ∷ (codes ",", Comma)
    ∷ (codes "(", Open) ∷ (codes ")", Close) ∷ (codes "|", Bar) ∷ (codes ";", Semicolon) ∷ (codes ":", Colon) ∷ (codes "[", OpenBracket)
    ∷ (codes "]", CloseBracket) ∷ []

abbrev pub symbol : List ℕ → Option Word
symbol t = spelled symbols t

-- the number that digits go on to, behind one
abbrev pub read_on : ℕ → List ℕ → ℕ
read_on n [] = n
read_on n (d ∷ ds) = read_on (10 * n + (d - 48)) ds

-- past the greatest number it is the greatest
abbrev pub number : List ℕ → ℕ
number t = min (read_on 0 t) 4294967295

abbrev pub unless_name : Option Keyword → List ℕ → Word
unless_name (Some k) t = Reserved k
unless_name None t = Name t

abbrev pub unless_always : Option Word → Bool → List ℕ → Word
unless_always (Some w) quoted t = w
unless_always None true t = Name t
unless_always None false t = unless_name (keyword t) t

-- the word of a name's token, inside quotes or outside
abbrev pub name_word : Bool → List ℕ → Word
name_word quoted t = unless_always (always t) quoted t

-- the bytes are a term of the full form within its limits, which stands for that at the place
pub record IsFullTerm (at : ℕ) (bytes : List ℕ) (r : RawTm) : Type 0 where
  pub term : Tm
  pub text : IsText bytes (a_term term)
  pub keeps : KeepsLimits bytes (length bytes)
  pub stands : r ≡ full at term

-- they are none
abbrev pub IsNoTerm : List ℕ → Type 0
IsNoTerm bytes = (t : Tm) → IsText bytes (a_term t) → KeepsLimits bytes (length bytes) → ⊥

-- the bytes between braces, of which the first brace stands at the place
abbrev pub IsInside : ℕ → List ℕ → Inside → Type 0
IsInside at bytes (Full r) = IsFullTerm at bytes r
IsInside at bytes Malformed = IsNoTerm bytes
IsInside at bytes (TooDeep n) = IsNoTerm bytes
IsInside at bytes (NameTooLong n) = IsNoTerm bytes

abbrev pub IsBraces : ℕ → List ℕ → Word → Type 0
IsBraces at bytes (Braces b) = IsInside at bytes b
IsBraces at bytes _ = ⊥

-- the bytes of a token that begins at the place, inside quotes or outside, are the word
abbrev pub IsWord : TokenKind → Bool → List ℕ → ℕ → Word → Type 0
IsWord name_token quoted t at w = w ≡ name_word quoted t
IsWord variable_token quoted t at w = w ≡ TyVar (drop 1 t)
IsWord number_token quoted t at w = w ≡ Number (number t)
IsWord quote_token quoted t at w = w ≡ Quote
IsWord braces_token quoted t at w = IsBraces at (take (length t - 1 - 1) (drop 1 t)) w
IsWord symbol_token quoted t at w = symbol t ≡ Some w

-- the bytes of a token
abbrev pub text_of : List ℕ → Token → List ℕ
text_of bytes token = take (token.to - token.from) (drop token.from bytes)

-- the words of the tokens, where the first stands inside quotes or outside
pub data AreWords (bytes : List ℕ) : Bool → List Token → List Placed → Type 0 where
  no_words : {quoted : Bool} → AreWords bytes quoted [] []
  one_word : {quoted : Bool} {token : Token} {tokens : List Token} {w : Word} {words : List Placed} → IsWord token.kind quoted (text_of bytes token) token.from w → AreWords bytes (quoted_after token.kind quoted) tokens words
      → AreWords bytes quoted (token ∷ tokens) (record { word = w; at = token.from } ∷ words)
