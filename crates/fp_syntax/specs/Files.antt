-- Files: which commands their bytes are.
use Rattle.std.specs.Prelude.{ℕ, false, List}
use Rattle.fp_lex.specs.declared.token.Token.{Token}
use Rattle.fp_lex.specs.Lexes.{Lexes, all}
use Rattle.fp_words.specs.declared.word.Placed.{Placed}
use Rattle.fp_commands.specs.declared.command.Command.{Command}
use Rattle.fp_syntax.specs.Words.{AreWords}
use Rattle.fp_commands.specs.Grammar.{IsFile, file_limits}

-- the bytes are tokens and separators, each token as long as can be, and the grammar derives their words, within the limits, as these commands
pub record Reads (bytes : List ℕ) (commands : List Command) : Type 0 where
  pub tokens : List Token
  pub lexed : Lexes false 0 bytes (all tokens)
  pub words : List Placed
  pub spelled : AreWords bytes false tokens words
  pub derived : IsFile file_limits words commands
