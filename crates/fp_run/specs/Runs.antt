-- The status of a run, and what is written and opened with each.
use Rattle.std.specs.Prelude.{◌≡◌, ◌⊎◌, ℕ, ◌+◌, List, ◌∷◌, Bool, true, false, Option, Some, None}
use Rattle.std.specs.Option.{option_map}
use Rattle.std.specs.Io.KnownBytes.{Appends, IsAtEnd}
use Rattle.fp_outside.specs.Held.{IsNamed, IsLonger}
use Rattle.fp_outside.specs.Sink.{AppendsPrefix}
use Rattle.fp_theory.specs.State.{State}
use Rattle.fp_sources.specs.Sources.{Source}
use Rattle.fp_command.specs.Outcome.{Session, session}
use Rattle.fp_run.specs.Words.{usage_line}
use Rattle.fp_run.specs.Report.{Holds, ReportsAll, ReportsFirst, byte_limit}

-- so many calls of `open` more succeeded, where it is told
abbrev pub OpensMore : ℕ → Option ℕ → Option ℕ → Type 0
OpensMore n before after = after ≡ option_map (λ k. k + n) before

-- What comes of the files, from a state on. With 0 and 1 their text is written whole, up to the first that is refused. Else so many of the first files were
-- read and their text made: with 3 it is written, and the next file, if it could be opened, is current; with 4 a first part of it is written; with 5 it is written.
pub data Runs (full : Bool) (held : Holds) (room : ℕ) (s : Session) (files : List (List ℕ)) (old new : Option (List ℕ)) (before after : Option ℕ) : Bool → ℕ → Session → Type 0 where
  accepted : {text : List ℕ} {current : Bool} {t : Session} (n : ℕ) → ReportsAll full held room s files n text false t → Appends old new text → OpensMore n before after →
      Runs full held room s files old new before after current 0 t
  refused : {text : List ℕ} {current : Bool} {t : Session} (n : ℕ) → ReportsAll full held room s files n text true t → Appends old new text → OpensMore n before after →
      Runs full held room s files old new before after current 1 t
  unopened : {text : List ℕ} {t : Session} (n : ℕ) → ReportsFirst full held room s files n text → Appends old new text → OpensMore n before after →
      Runs full held room s files old new before after false 3 t
  unread : {text : List ℕ} {t : Session} (n : ℕ) → ReportsFirst full held room s files n text → Appends old new text → OpensMore (n + 1) before after →
      Runs full held room s files old new before after true 3 t
  unwritten : {text : List ℕ} {current : Bool} {t : Session} (n : ℕ) → ReportsFirst full held room s files n text → AppendsPrefix old new text → OpensMore n before after →
      Runs full held room s files old new before after current 4 t
  unmade : {text : List ℕ} {current : Bool} {t : Session} (n : ℕ) → ReportsFirst full held room s files n text → Appends old new text → OpensMore (n + 1) before after →
      Runs full held room s files old new before after current 5 t

-- for malformed words the usage line is written, with 2, or a first part of it, with 4, and no file is opened
pub data Explains (old new : Option (List ℕ)) (before after : Option ℕ) (s : State) : ℕ → State → Type 0 where
  explained : Appends old new usage_line → after ≡ before → Explains old new before after s 2 s
  cut_short : AppendsPrefix old new usage_line → after ≡ before → Explains old new before after s 4 s

-- what comes of the words, and the state that the theory has in the end; what the sources have then isn't told
abbrev pub RunsWords : Option (Bool × List (List ℕ)) → Holds → Session → Option (List ℕ) → Option (List ℕ) → Option ℕ → Option ℕ → Bool → ℕ → State → Type 0
RunsWords None held s old new before after current status t = Explains old new before after s.theory status t
RunsWords (Some w) held s old new before after current status t = (sources : List Source) × Runs w.0 held byte_limit s w.1 old new before after current status (session t sources)

-- one of the files is the current one, and it is read to its end, or is longer than the room that it had
pub data LeavesRead (held : Holds) (name left : Option (List ℕ)) : List (List ℕ) → Type 0 where
  here : {file : List ℕ} {files : List (List ℕ)} (room : ℕ) → IsNamed name file → IsAtEnd left ⊎ IsLonger held file room → LeavesRead held name left (file ∷ files)
  later : {file : List ℕ} {files : List (List ℕ)} → LeavesRead held name left files → LeavesRead held name left (file ∷ files)

abbrev pub ReadsWords : Option (Bool × List (List ℕ)) → Holds → Option (List ℕ) → Option (List ℕ) → Type 0
ReadsWords None held name left = ⊥
ReadsWords (Some w) held name left = LeavesRead held name left w.1
