-- What the program's classes and pieces stand for.
use Rattle.std.specs.Prelude.{ℕ, Bool}
use Rattle.std.specs.Char.{is_ascii_digit}
use Rattle.fp_lex.specs.declared.bytes.Class.{Class}
use Rattle.fp_lex.specs.declared.bytes.Class.TheVariants.{Part, Digit, Allowed, NoQuote, NoBrace}
use Rattle.fp_lex.specs.declared.piece.Piece.{Piece as CodePiece}
use Rattle.fp_lex.specs.declared.piece.Piece.TheVariants.{Between, Token, Bad, Open, Long}
use Rattle.fp_lex.specs.Bytes.{is_allowed, is_part, is_no_quote, is_no_brace}
use Rattle.fp_lex.specs.Pieces.{Piece, between, token, bad, unclosed, long}

abbrev pub holds : Class → ℕ → Bool
holds Part = is_part
holds Digit = is_ascii_digit
holds Allowed = is_allowed
holds NoQuote = is_no_quote
holds NoBrace = is_no_brace

abbrev pub piece_of : CodePiece → Piece
piece_of (Between n) = between n
piece_of (Token kind n) = token kind n
piece_of (Bad n) = bad n
piece_of Open = unclosed
piece_of Long = long
