-- One more word.
use Rattle.std.proofs.Common.{◌≡◌, ℕ, Bool, false, List, [], ◌∷◌, ◌++◌, append_assoc}
use Rattle.fp_lex.specs.declared.token.Token.{Token}
use Rattle.fp_lex.specs.Lexes.{quoted_after}
use Rattle.fp_words.specs.declared.word.Word.{Word}
use Rattle.fp_words.specs.declared.word.Placed.{Placed}
use Rattle.fp_syntax.specs.Words.{IsWord, text_of, AreWords, one_word}

-- whatever words the rest is, the whole is these behind those so far
abbrev pub GoesOn : List ℕ → Bool → List Token → List Token → List Placed → Type 0
GoesOn bytes quoted rest tokens words = (more : List Placed) → AreWords bytes quoted rest more → AreWords bytes false tokens (words ++ more)

pub word_more : (bytes : List ℕ) (quoted : Bool) (tokens rest after : List Token) (t : Token) (w : Word) (words : List Placed) → rest ≡ t ∷ after → IsWord t.kind quoted (text_of bytes t) t.from w → GoesOn bytes quoted rest tokens words
    → GoesOn bytes (quoted_after t.kind quoted) after tokens (words ++ record { word = w; at = t.from } ∷ [])
word_more bytes quoted tokens rest after t w words e x g more k =
    rw (append_assoc words (record { word = w; at = t.from } ∷ []) more) (g (record { word = w; at = t.from } ∷ more) (rw e (one_word x k)))
