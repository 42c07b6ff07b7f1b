-- Names outside braces have at most 64 bytes.
use Rattle.std.proofs.Common.{◌≡◌, ◌≤◌, ◌+◌, ◌-◌, ℕ, suc, Bool, true, false, not, cond, ◌&&◌, ◌==◌, nat_lt, List, [], ◌∷◌, length, drop, Option, Some, None, refl, sym, subst, arith}
use Rattle.std.proofs.lemmas.Bool.Decides.{nat_tests}
use Rattle.std.proofs.lemmas.List.{length-take, length-drop}
use Rattle.std.specs.Str.{bytes_eq}
use Rattle.std.specs.Char.{is_ascii_digit}
use Rattle.fp_lex.specs.declared.token.TokenKind.{TokenKind}
use Rattle.fp_lex.specs.declared.token.TokenKind.TheVariants.{Name as name_token, TyVar as variable_token, Number as number_token, Quote as quote_token, Braces as braces_token, Symbol as symbol_token}
use Rattle.fp_lex.specs.declared.token.Token.{Token}
use Rattle.fp_lex.specs.Bytes.{is_space, is_start, is_part, is_allowed, is_no_brace, is_no_quote, is_comment, leading, symbol_length}
use Rattle.fp_lex.specs.Pieces.{Piece, between, token, bad, unclosed, long, name, variable, quote, after_comment, braces, symbol, piece}
use Rattle.fp_lex.specs.Lexes.{Outcome, all, bad_byte, open_quote, name_too_long, before, placed, quoted_after, Lexes, ended, separated, begun, is_bad, is_open, is_long}
use Rattle.fp_words.specs.declared.word.Keyword.{Keyword}
use Rattle.fp_words.specs.declared.word.Word.{Word}
use Rattle.fp_words.specs.declared.word.Word.TheVariants.{Braces}
use Rattle.fp_words.specs.declared.word.Placed.{Placed}
use Rattle.fp_commands.specs.declared.command.Command.{Command}
use Rattle.fp_commands.specs.Grammar.{file_limits}
use Rattle.fp_commands.specs.Names.{HaveShortNames}
use Rattle.fp_commands.proofs.Short.{Short, AllShort, file_short}
use Rattle.fp_syntax.specs.Words.{spelled, everywhere, symbols, always, keyword, symbol as symbol_word, unless_name, unless_always, IsBraces, IsWord, text_of, AreWords, no_words, one_word}
use Rattle.fp_syntax.specs.Files.{Reads}

-- a name's token has at most 64 bytes, a type variable's one more
abbrev Brief : TokenKind → ℕ → Type 0
Brief name_token n = n ≤ 64
Brief variable_token n = n ≤ 65
Brief _ n = Unit {0}

abbrev BriefPiece : Piece → Type 0
BriefPiece (token kind n) = Brief kind n
BriefPiece _ = Unit {0}

brief_cond : (b : Bool) (x y : Piece) → BriefPiece x → BriefPiece y → BriefPiece (cond b x y)
brief_cond true x y p q = p
brief_cond false x y p q = q

name_brief : (more : ℕ) (b : Bool) → nat_lt more 64 ≡ b → BriefPiece (cond b (token name_token (suc more)) long)
name_brief more true e = grind (arith, nat_tests, e)
name_brief more false e = tt

rest_brief : (more : ℕ) (b : Bool) → nat_lt more 64 ≡ b → BriefPiece (cond b (token variable_token (suc (suc more))) long)
rest_brief more true e = grind (arith, nat_tests, e)
rest_brief more false e = tt

variable_brief : (bs : List ℕ) → BriefPiece (variable bs)
variable_brief [] = tt
variable_brief (b ∷ bs) = brief_cond (is_start b) _ (bad 0) (rest_brief (leading is_part bs) (nat_lt (leading is_part bs) 64) refl) tt

quote_brief : (quoted : Bool) (bs : List ℕ) → BriefPiece (quote quoted bs)
quote_brief true bs = tt
quote_brief false bs = brief_cond (leading is_no_quote bs == length bs) unclosed (token quote_token 1) tt tt

comment_brief : (bs : List ℕ) (n : ℕ) → BriefPiece (after_comment bs n)
comment_brief [] n = tt
comment_brief (b ∷ bs) n = brief_cond (is_comment b) (after_comment bs (suc n)) _ (comment_brief bs (suc n)) (brief_cond (b == 10) (between n) (bad n) tt tt)

braces_brief : (bs : List ℕ) → BriefPiece (braces bs)
braces_brief bs =
    brief_cond (leading is_no_brace bs == length bs) unclosed _ tt
    (brief_cond (nat_lt (leading is_allowed bs) (leading is_no_brace bs)) (bad (suc (leading is_allowed bs))) (token braces_token (suc (suc (leading is_no_brace bs)))) tt tt)

symbol_brief : (n : ℕ) → BriefPiece (symbol n)
symbol_brief n = brief_cond (n == 0) (bad 0) (token symbol_token n) tt tt

piece_brief : (quoted : Bool) (bytes : List ℕ) → BriefPiece (piece quoted bytes)
piece_brief quoted [] = tt
piece_brief quoted (b ∷ bs) =
    brief_cond (is_space b) (between 1) _ tt
    (brief_cond (is_start b) (name (leading is_part bs)) _ (name_brief (leading is_part bs) (nat_lt (leading is_part bs) 64) refl)
    (brief_cond (b == 39) (variable bs) _ (variable_brief bs)
    (brief_cond (is_ascii_digit b) (token number_token (suc (leading is_ascii_digit bs))) _ tt
    (brief_cond (b == 34) (quote quoted bs) _ (quote_brief quoted bs)
    (brief_cond (b == 35 && not quoted) (after_comment bs 1) _ (comment_brief bs 1)
    (brief_cond (b == 123 && not quoted) (braces bs) (symbol (symbol_length (b ∷ bs))) (braces_brief bs) (symbol_brief (symbol_length (b ∷ bs)))))))))

-- tokens of the bytes
abbrev BriefToken : Token → Type 0
BriefToken t = Brief t.kind (t.to - t.from)

abbrev AllBrief : List Token → Type 0
AllBrief [] = Unit {0}
AllBrief (t ∷ ts) = BriefToken t × AllBrief ts

abbrev BriefOutcome : Outcome → Type 0
BriefOutcome (all ts) = AllBrief ts
BriefOutcome _ = Unit {0}

before_brief : (t : Token) (out : Outcome) → BriefToken t → BriefOutcome out → BriefOutcome (before (t ∷ []) out)
before_brief t (all ts) p q = (p, q)
before_brief t (bad_byte at) p q = tt
before_brief t (open_quote at) p q = tt
before_brief t (name_too_long at) p q = tt

same_size : (at n : ℕ) → n ≡ (at + n) - at
same_size at n = omega arith

lexes_brief : (quoted : Bool) (at : ℕ) (bytes : List ℕ) (out : Outcome) → Lexes quoted at bytes out → BriefOutcome out
lexes_brief quoted at bytes out (ended e) = tt
lexes_brief quoted at bytes out (separated n e k) = lexes_brief quoted (at + n) (drop n bytes) out k
lexes_brief quoted at bytes out (begun {out = rest} kind n e k) =
    let here : Brief kind n = subst (λ p. BriefPiece p) e (piece_brief quoted bytes) in
    before_brief (placed kind at (at + n)) rest (subst (λ m. Brief kind m) (same_size at n) here) (lexes_brief (quoted_after kind quoted) (at + n) (drop n bytes) rest k)
lexes_brief quoted at bytes out (is_bad n e) = tt
lexes_brief quoted at bytes out (is_open e) = tt
lexes_brief quoted at bytes out (is_long e) = tt

-- their words
abbrev ShortOption : Option Word → Type 0
ShortOption None = Unit {0}
ShortOption (Some w) = Short w

short_cond : (b : Bool) (x y : Option Word) → ShortOption x → ShortOption y → ShortOption (cond b x y)
short_cond true x y p q = p
short_cond false x y p q = q

abbrev EachShort : List (List ℕ × Word) → Type 0
EachShort [] = Unit {0}
EachShort (row ∷ rows) = Short row.1 × EachShort rows

spelled_short : (rows : List (List ℕ × Word)) (t : List ℕ) → EachShort rows → ShortOption (spelled rows t)
spelled_short [] t s = tt
spelled_short (row ∷ rows) t s = short_cond (bytes_eq t row.0) (Some row.1) (spelled rows t) s.0 (spelled_short rows t s.1)

always_short : (t : List ℕ) → ShortOption (always t)
always_short t = spelled_short everywhere t (tt, (tt, (tt, tt)))

unless_short : (k : Option Keyword) (t : List ℕ) → length t ≤ 64 → Short (unless_name k t)
unless_short None t l = l
unless_short (Some k) t l = tt

name_short : (o : Option Word) (quoted : Bool) (t : List ℕ) → ShortOption o → length t ≤ 64 → Short (unless_always o quoted t)
name_short (Some w) quoted t s l = s
name_short None true t s l = l
name_short None false t s l = unless_short (keyword t) t l

text_length : (bytes : List ℕ) (t : Token) → length (text_of bytes t) ≤ t.to - t.from
text_length bytes t = omega (arith, length-take (t.to - t.from) (drop t.from bytes))

less_one : (t : List ℕ) → length t ≤ 65 → length (drop 1 t) ≤ 64
less_one t l = omega (arith, length-drop 1 t)

symbol_short : (t : List ℕ) → ShortOption (symbol_word t)
symbol_short t = spelled_short symbols t (tt, (tt, (tt, (tt, (tt, (tt, (tt, (tt, (tt, (tt, (tt, (tt, (tt, (tt, (tt, (tt, (tt, (tt, (tt, (tt, (tt, (tt, (tt, (tt, (tt, tt)))))))))))))))))))))))))

braces_short : (at : ℕ) (bytes : List ℕ) (w : Word) → IsBraces at bytes w → Short w
braces_short at bytes (Braces b) x = tt
braces_short at bytes _ x = absurd x

word_short : (kind : TokenKind) (quoted : Bool) (t : List ℕ) (n at : ℕ) (w : Word) → Brief kind n → length t ≤ n → IsWord kind quoted t at w → Short w
word_short name_token quoted t n at w b l x = subst (λ v. Short v) (sym x) (name_short (always t) quoted t (always_short t) (omega (arith, b, l)))
word_short variable_token quoted t n at w b l x = subst (λ v. Short v) (sym x) (less_one t (omega (arith, b, l)))
word_short number_token quoted t n at w b l x = subst (λ v. Short v) (sym x) tt
word_short quote_token quoted t n at w b l x = subst (λ v. Short v) (sym x) tt
word_short braces_token quoted t n at w b l x = braces_short at _ w x
word_short symbol_token quoted t n at w b l x = subst (λ o. ShortOption o) x (symbol_short t)

words_short : (bytes : List ℕ) (quoted : Bool) (tokens : List Token) (words : List Placed) → AreWords bytes quoted tokens words → AllBrief tokens → AllShort words
words_short bytes quoted tokens words no_words b = tt
words_short bytes quoted tokens words (one_word {token = t} {tokens = rest} {w = w} {words = more} x m) b =
    (word_short t.kind quoted (text_of bytes t) (t.to - t.from) t.from w b.0 (text_length bytes t) x, words_short bytes (quoted_after t.kind quoted) rest more m b.1)

pub short_names : (bytes : List ℕ) (commands : List Command) → Reads bytes commands → HaveShortNames commands
short_names bytes commands r =
    file_short file_limits r.words commands r.derived (words_short bytes false r.tokens r.words r.spelled (lexes_brief false 0 bytes (all r.tokens) r.lexed))
