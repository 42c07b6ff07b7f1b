-- What reading on by a byte, and reading to the end, answer.
use Rattle.std.specs.Prelude.{◌≡◌, ◌≤◌, ◌<◌, ◌+◌, ℕ, List, length, Some, None, Result, Ok, Err}
use Rattle.fp_full.specs.declared.fault.FullFault.{FullFault}
use Rattle.fp_full.specs.declared.fault.FullFault.TheVariants.{Refused, TooDeep, NameTooLong, NoMemory}
use Rattle.fp_full.specs.declared.parsed.Parsed.{Parsed as Read}
use Rattle.fp_full.specs.Texts.{Kind, kind_of, opened_by, letters, IsText, FirstBad, KeepsLimits, FirstTooDeep, FirstTooLong}
use Rattle.fp_full.specs.Machine.{Phase, next_phase, ended_at, open_word}
use Rattle.fp_full.specs.Views.{parsed_of, phase_of}
use Rattle.fp_full.specs.declared.reader.Progress.{Progress}

-- the phase and the depth after the byte at that place, within the limits
pub record Advances (old : Phase) (depth byte at : ℕ) (new : Phase) (deeper : ℕ) : Type 0 where
  pub phase : next_phase old byte at ≡ Some new
  pub counted : deeper ≡ opened_by depth byte
  pub shallow : deeper ≤ 200
  pub short : letters (open_word new) ≤ 64

pub record PassesDepth (old : Phase) (depth byte at : ℕ) : Type 0 where
  pub new : Phase
  pub phase : next_phase old byte at ≡ Some new
  pub deep : 200 < opened_by depth byte

pub record PassesLength (old : Phase) (byte at first : ℕ) : Type 0 where
  pub new : Phase
  pub phase : next_phase old byte at ≡ Some new
  pub long : 64 < letters (open_word new)
  pub starts : first + length (open_word new) ≡ at + 1

-- why the byte at that place ends the reading
abbrev pub StopsBy : Phase → ℕ → ℕ → ℕ → FullFault → Type 0
StopsBy old depth byte at (Refused place) = (place ≡ at) × (next_phase old byte at ≡ None)
StopsBy old depth byte at (TooDeep place) = (place ≡ at) × PassesDepth old depth byte at
StopsBy old depth byte at (NameTooLong place) = PassesLength old byte at place
StopsBy old depth byte at NoMemory = Unit {0}

-- what a fault says of the bytes
abbrev pub FaultAt : Kind → List ℕ → FullFault → Type 0
FaultAt kind bytes (Refused at) = FirstBad kind bytes at × KeepsLimits bytes at
FaultAt kind bytes (TooDeep at) = FirstTooDeep kind bytes at
FaultAt kind bytes (NameTooLong at) = FirstTooLong kind bytes at
FaultAt kind bytes NoMemory = Unit {0}

-- the bytes are a text, within the limits, of what was read
pub record ReadsAs (kind : Kind) (bytes : List ℕ) (read : Read) : Type 0 where
  pub text : IsText bytes (parsed_of read)
  pub of_kind : kind_of (parsed_of read) ≡ kind
  pub keeps : KeepsLimits bytes (length bytes)

abbrev pub Answers : Kind → List ℕ → Result Read FullFault → Type 0
Answers kind bytes (Ok read) = ReadsAs kind bytes read
Answers kind bytes (Err fault) = FaultAt kind bytes fault

-- that phase and depth are within the limits, or the limit that they pass
abbrev pub KeepsOn : Phase → ℕ → ℕ → Result Progress FullFault → Type 0
KeepsOn phase depth at (Ok next) = (phase_of next.phase ≡ phase) × (next.depth ≡ depth) × (depth ≤ 200) × (letters (open_word phase) ≤ 64)
KeepsOn phase depth at (Err (Refused place)) = ⊥
KeepsOn phase depth at (Err (TooDeep place)) = (place ≡ at) × (200 < depth)
KeepsOn phase depth at (Err (NameTooLong place)) = (64 < letters (open_word phase)) × (place + length (open_word phase) ≡ at + 1)
KeepsOn phase depth at (Err NoMemory) = ⊥

-- what was read where the bytes end at that place
abbrev pub EndsAs : Phase → ℕ → Result Read FullFault → Type 0
EndsAs phase at (Ok read) = ended_at phase at ≡ Some (parsed_of read)
EndsAs phase at (Err (Refused place)) = (place ≡ at) × (ended_at phase at ≡ None)
EndsAs phase at (Err (TooDeep place)) = ⊥
EndsAs phase at (Err (NameTooLong place)) = ⊥
EndsAs phase at (Err NoMemory) = Unit {0}
