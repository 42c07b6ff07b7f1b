-- The words that signs are.
use Rattle.fp_words.specs.declared.word.Infix.TheVariants.{Equal}
use Rattle.fp_words.specs.declared.word.Keyword.TheVariants as keyword
use Rattle.fp_words.specs.declared.word.Word.{Word}
use Rattle.fp_words.specs.declared.word.Word.TheVariants.{Between, Reserved, Quote as W_Quote, Comma as W_Comma, Colons as W_Colons, Colon as W_Colon, Bar as W_Bar, Semicolon as W_Semicolon, OpenBracket as W_OpenBracket, CloseBracket as W_CloseBracket}
use Rattle.fp_syntax.specs.declared.cursor.Sign.{Sign}
use Rattle.fp_syntax.specs.declared.cursor.Sign.TheVariants.{Equals, Colon, Colons, Comma, Bar, Semicolon, Quote, OpenBracket, CloseBracket, And, Where, Proof, End, Abs, Rep, By}

abbrev pub sign_word : Sign → Word
sign_word Equals = Between Equal
sign_word Colon = W_Colon
sign_word Colons = W_Colons
sign_word Comma = W_Comma
sign_word Bar = W_Bar
sign_word Semicolon = W_Semicolon
sign_word Quote = W_Quote
sign_word OpenBracket = W_OpenBracket
sign_word CloseBracket = W_CloseBracket
sign_word And = Reserved keyword.And
sign_word Where = Reserved keyword.Where
sign_word Proof = Reserved keyword.Proof
sign_word End = Reserved keyword.End
sign_word Abs = Reserved keyword.Abs
sign_word Rep = Reserved keyword.Rep
sign_word By = Reserved keyword.By
