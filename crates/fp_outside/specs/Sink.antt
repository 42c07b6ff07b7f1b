-- What a write takes.
use Rattle.std.specs.Prelude.{◌<◌, ◌≤◌, ℕ, List, length, take, Option, Result, IfOk}
use Rattle.std.specs.Io.KnownBytes.{Appends}

-- on success one byte at least, and at most all
abbrev pub TakesSome : {E : Type 0} → Result ℕ E → ℕ → Type 0
TakesSome result all = IfOk result (λ count. (0 < count) × (count ≤ all))

-- Where it is told what was written, it grew by a first part of these bytes.
abbrev pub AppendsPrefix : Option (List ℕ) → Option (List ℕ) → List ℕ → Type 0
AppendsPrefix old new bytes = (count : ℕ) × (count ≤ length bytes) × Appends old new (take count bytes)
