-- The bytes of a file are one list of commands.
use Rattle.std.proofs.Common.{◌≡◌, ◌∙◌, ℕ, Bool, false, List, [], ◌∷◌, Option, Some, None, refl, sym, ap, subst}
use Rattle.fp_term.specs.Terms.{Tm}
use Rattle.fp_raw.specs.Raws.{RawTm, full}
use Rattle.fp_full.specs.Texts.{Parsed, a_term}
use Rattle.fp_full.proofs.Reading.{one_reading}
use Rattle.fp_lex.specs.declared.token.TokenKind.{TokenKind}
use Rattle.fp_lex.specs.declared.token.TokenKind.TheVariants.{Name as name_token, TyVar as variable_token, Number as number_token, Quote as quote_token, Braces as braces_token, Symbol as symbol_token}
use Rattle.fp_lex.specs.declared.token.Token.{Token}
use Rattle.fp_lex.specs.Lexes.{Outcome, all, quoted_after}
use Rattle.fp_lex.proofs.Reached.{one_outcome}
use Rattle.fp_words.specs.declared.word.Braces.TheVariants.{Full}
use Rattle.fp_words.specs.declared.word.Word.{Word}
use Rattle.fp_words.specs.declared.word.Word.TheVariants.{Braces}
use Rattle.fp_words.specs.declared.word.Placed.{Placed}
use Rattle.fp_commands.specs.declared.command.Command.{Command}
use Rattle.fp_commands.specs.Grammar.{IsFile, file_limits}
use Rattle.fp_commands.proofs.Good.{Good, AllGood, file_good}
use Rattle.fp_commands.proofs.Unique.{one_file}
use Rattle.fp_syntax.specs.Words.{IsFullTerm, IsBraces, IsWord, text_of, AreWords, no_words, one_word}
use Rattle.fp_syntax.specs.Files.{Reads}

abbrev term_in : Tm → Parsed → Tm
term_in d (a_term t) = t
term_in d _ = d

full_same : (at : ℕ) (bytes : List ℕ) (r s : RawTm) → IsFullTerm at bytes r → IsFullTerm at bytes s → r ≡ s
full_same at bytes r s x y =
    let same : x.term ≡ y.term = ap (λ p. term_in x.term p) (one_reading bytes (a_term x.term) (a_term y.term) refl x.text y.text) in
    x.stands ∙ (ap (λ t. full at t) same ∙ sym y.stands)

full_there : (at : ℕ) (bytes : List ℕ) (w : Word) → IsBraces at bytes w → Good w → (r : RawTm) × (w ≡ Braces (Full r)) × IsFullTerm at bytes r
full_there at bytes (Braces (Full r)) x g = (r, refl, x)
full_there at bytes (Braces _) x g = absurd g
full_there at bytes _ x g = absurd x

abbrev chosen : Word → Option Word → Word
chosen d None = d
chosen d (Some w) = w

word_same : (kind : TokenKind) (quoted : Bool) (t : List ℕ) (at : ℕ) (w v : Word) → IsWord kind quoted t at w → IsWord kind quoted t at v → Good w → Good v → w ≡ v
word_same name_token quoted t at w v x y g h = x ∙ sym y
word_same variable_token quoted t at w v x y g h = x ∙ sym y
word_same number_token quoted t at w v x y g h = x ∙ sym y
word_same quote_token quoted t at w v x y g h = x ∙ sym y
word_same braces_token quoted t at w v x y g h =
    let p = full_there at _ w x g in
    let q = full_there at _ v y h in
    p.1 ∙ (ap (λ r. Braces (Full r)) (full_same at _ p.0 q.0 p.2 q.2) ∙ sym q.1)
word_same symbol_token quoted t at w v x y g h = ap (λ o. chosen w o) (sym x ∙ y)

abbrev placed_of : ℕ → Word → Placed
placed_of at w = record { word = w; at = at }

words_same : (bytes : List ℕ) (quoted : Bool) (tokens : List Token) (ws vs : List Placed) → AreWords bytes quoted tokens ws → AreWords bytes quoted tokens vs → AllGood ws → AllGood vs → ws ≡ vs
words_same bytes quoted tokens ws vs no_words no_words g h = refl
words_same bytes quoted tokens ws vs (one_word {token = token} {tokens = rest} {w = w} {words = us} x m) (one_word {w = v} {words = zs} y n) g h =
    let front = word_same token.kind quoted (text_of bytes token) token.from w v x y g.0 h.0 in
    let back = words_same bytes (quoted_after token.kind quoted) rest us zs m n g.1 h.1 in
    ap (λ z. placed_of token.from z ∷ us) front ∙ ap (λ z. placed_of token.from v ∷ z) back

abbrev tokens_in : Outcome → List Token
tokens_in (all ts) = ts
tokens_in _ = []

pub one_list : (bytes : List ℕ) (xs ys : List Command) → Reads bytes xs → Reads bytes ys → xs ≡ ys
one_list bytes xs ys x y =
    let same : x.tokens ≡ y.tokens = ap (λ o. tokens_in o) (one_outcome false 0 bytes (all x.tokens) (all y.tokens) x.lexed y.lexed) in
    let spelled : AreWords bytes false y.tokens x.words = subst (λ ts. AreWords bytes false ts x.words) same x.spelled in
    let here : x.words ≡ y.words = words_same bytes false y.tokens x.words y.words spelled y.spelled (file_good file_limits x.words xs x.derived) (file_good file_limits y.words ys y.derived) in
    one_file file_limits file_limits y.words xs ys (subst (λ ws. IsFile file_limits ws xs) here x.derived) y.derived
