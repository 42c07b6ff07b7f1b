-- What is written for files, one after the other.
use Rattle.std.specs.Prelude.{◌≤◌, ℕ, ◌+◌, ◌-◌, List, [], ◌∷◌, ◌++◌, length, Bool, true, false, Option}
use Rattle.fp_outside.specs.Held.{Has, IsLonger}
use Rattle.fp_report.specs.declared.reason.Kind.TheVariants.{TooLong}
use Rattle.fp_report.specs.declared.reason.Reason.TheVariants.{Plain}
use Rattle.fp_report.specs.Reasons.{refusal_line}
use Rattle.fp_command.specs.Outcome.{Session}
use Rattle.fp_command.specs.Report.{IsReport}

-- what files hold, where it is told
abbrev pub Holds : Type 0
Holds = Option (List (List ℕ × List ℕ))

-- the text of the file of that name, and how many bytes the later files may have. A file with more than the room is refused at the first byte past it
pub data Reports (full : Bool) (held : Holds) (file : List ℕ) (room : ℕ) (s : Session) : List ℕ → Bool → Session → ℕ → Type 0 where
  fits : {text : List ℕ} {ends : Bool} {t : Session} (bytes : List ℕ) → Has held file bytes → length bytes ≤ room → IsReport full file bytes s text ends t →
      Reports full held file room s text ends t (room - length bytes)
  too_long : IsLonger held file room → Reports full held file room s (refusal_line full file room (Plain TooLong)) true s room

-- the text of files in order, up to the first that is refused, and how many they are
pub data ReportsAll (full : Bool) (held : Holds) : ℕ → Session → List (List ℕ) → ℕ → List ℕ → Bool → Session → Type 0 where
  finished : {room : ℕ} {s : Session} → ReportsAll full held room s [] 0 [] false s
  went_on : {room left n : ℕ} {s t u : Session} {file : List ℕ} {files : List (List ℕ)} {text rest : List ℕ} {ends : Bool} → Reports full held file room s text false t left →
      ReportsAll full held left t files n rest ends u → ReportsAll full held room s (file ∷ files) (n + 1) (text ++ rest) ends u
  refused : {room left : ℕ} {s t : Session} {file : List ℕ} {files : List (List ℕ)} {text : List ℕ} → Reports full held file room s text true t left →
      ReportsAll full held room s (file ∷ files) 1 text true t

-- the text of the first files, so many of them
pub data ReportsFirst (full : Bool) (held : Holds) : ℕ → Session → List (List ℕ) → ℕ → List ℕ → Type 0 where
  none : {room : ℕ} {s : Session} {files : List (List ℕ)} → ReportsFirst full held room s files 0 []
  more : {room left n : ℕ} {s t : Session} {file : List ℕ} {files : List (List ℕ)} {text rest : List ℕ} → Reports full held file room s text false t left →
      ReportsFirst full held left t files n rest → ReportsFirst full held room s (file ∷ files) (n + 1) (text ++ rest)
  last : {room left : ℕ} {s t : Session} {file : List ℕ} {files : List (List ℕ)} {text : List ℕ} → Reports full held file room s text true t left →
      ReportsFirst full held room s (file ∷ files) 1 text

-- the most bytes of all files
abbrev pub byte_limit : ℕ
byte_limit = 4194304
