-- What is written for a file.
use Rattle.std.specs.Prelude.{ℕ, List, [], ◌∷◌, ◌++◌, Bool, true, false}
use Rattle.fp_lex.specs.Lexes.{Lexes, all, bad_byte, open_quote, name_too_long}
use Rattle.fp_lex.specs.declared.token.Token.{Token}
use Rattle.fp_commands.specs.declared.command.Command.{Command}
use Rattle.fp_report.specs.declared.item.Item.{Item}
use Rattle.fp_report.specs.declared.reason.Kind.TheVariants.{BadByte, OpenQuote, NameTooLong}
use Rattle.fp_report.specs.declared.reason.Reason.{Reason}
use Rattle.fp_report.specs.declared.reason.Reason.TheVariants.{Plain}
use Rattle.fp_report.specs.Items.{item_lines}
use Rattle.fp_report.specs.Reasons.{refusal_line}
use Rattle.fp_syntax.specs.Files.{Reads}
use Rattle.fp_command.specs.Reading.{IsUnreadable}
use Rattle.fp_command.specs.Outcome.{Session, Accepts, Refuses}

-- `Carries full file s cs text ends t`: the commands of a file, carried out in order from a state, give that text, end with a refusal or not,
-- and lead to that state. A refused command leaves the state as it was
pub data Carries (full : Bool) (file : List ℕ) : Session → List Command → List ℕ → Bool → Session → Type 0 where
  done : {s : Session} → Carries full file s [] [] false s
  accepted : {s t u : Session} {cs : List Command} {text : List ℕ} {ends : Bool} (c : Command) (items : List Item) → Accepts s c items t →
      Carries full file t cs text ends u → Carries full file s (c ∷ cs) (item_lines full items ++ text) ends u
  stopped : {s : Session} {cs : List Command} (c : Command) (at : ℕ) (reason : Reason) → Refuses s.theory c at reason →
      Carries full file s (c ∷ cs) (refusal_line full file at reason) true s

-- the bytes are no commands, and why
pub data IsFileFault (bytes : List ℕ) : ℕ → Reason → Type 0 where
  has_bad_byte : (at : ℕ) → Lexes false 0 bytes (bad_byte at) → IsFileFault bytes at (Plain BadByte)
  has_open_quote : (at : ℕ) → Lexes false 0 bytes (open_quote at) → IsFileFault bytes at (Plain OpenQuote)
  has_long_name : (at : ℕ) → Lexes false 0 bytes (name_too_long at) → IsFileFault bytes at (Plain NameTooLong)
  is_unreadable : (tokens : List Token) (at : ℕ) (reason : Reason) → Lexes false 0 bytes (all tokens) → IsUnreadable at reason → IsFileFault bytes at reason

-- the text of a file of these bytes, carried out from a state
pub data IsReport (full : Bool) (file bytes : List ℕ) (s : Session) : List ℕ → Bool → Session → Type 0 where
  carried : {text : List ℕ} {ends : Bool} {t : Session} (cs : List Command) → Reads bytes cs →
      Carries full file s cs text ends t → IsReport full file bytes s text ends t
  unread : (at : ℕ) (reason : Reason) → IsFileFault bytes at reason → IsReport full file bytes s (refusal_line full file at reason) true s
