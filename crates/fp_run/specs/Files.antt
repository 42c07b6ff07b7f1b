-- What comes of one file.
use Rattle.std.specs.Prelude.{◌≡◌, ℕ, List, Bool, IsTrue, if◌then◌else◌, Option, Result, Ok, Err}
use Rattle.std.specs.Io.KnownBytes.{Appends}
use Rattle.fp_outside.specs.Opened.{one_more}
use Rattle.fp_outside.specs.Sink.{AppendsPrefix}
use Rattle.fp_command.specs.Outcome.{Session}
use Rattle.fp_run.specs.Report.{Holds, Reports}
use Rattle.fp_run.specs.declared.file.Written.{Written}
use Rattle.fp_run.specs.declared.file.FileFault.{FileFault}
use Rattle.fp_run.specs.declared.file.FileFault.TheVariants.{Files, Sink, NoMemory}

-- the file is current, unless a call failed
abbrev pub LeavesOpen : {T : Type 0} → Result T FileFault → Bool → Type 0
LeavesOpen (Ok _) current = IsTrue current
LeavesOpen (Err Files) current = Unit {0}
LeavesOpen (Err Sink) current = ⊥
LeavesOpen (Err NoMemory) current = IsTrue current

-- the text of a report is written whole, or a first part of it
abbrev pub WritesReport : Option (List ℕ) → Option (List ℕ) → List ℕ → Bool → ℕ → Result Written FileFault → Type 0
WritesReport old new text ends left (Ok w) = Appends old new text × (w.refused ≡ ends) × (w.left ≡ left)
WritesReport old new text ends left (Err Files) = ⊥
WritesReport old new text ends left (Err Sink) = AppendsPrefix old new text
WritesReport old new text ends left (Err NoMemory) = ⊥

-- what is written and opened for one file, with its answer
abbrev pub WritesFile : Bool → Holds → List ℕ → ℕ → Session → Option (List ℕ) → Option (List ℕ) → Option ℕ → Option ℕ → Bool → Result Written FileFault → Session → Type 0
WritesFile full held file room s old new before after current (Ok w) t =
    (text : List ℕ) × Reports full held file room s text w.refused t w.left × Appends old new text × (after ≡ one_more before)
WritesFile full held file room s old new before after current (Err Files) t = (new ≡ old) × (after ≡ (if current then one_more before else before))
WritesFile full held file room s old new before after current (Err Sink) t =
    (text : List ℕ) × (ends : Bool) × (left : ℕ) × Reports full held file room s text ends t left × AppendsPrefix old new text × (after ≡ one_more before)
WritesFile full held file room s old new before after current (Err NoMemory) t = (new ≡ old) × (after ≡ one_more before)
