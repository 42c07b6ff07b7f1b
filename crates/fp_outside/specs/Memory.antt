-- What contracts see of files in memory.
use Rattle.std.specs.Prelude.{◌≡◌, ◌≤◌, ◌==◌, ◌||◌, ◌-◌, ◌^◌, ℕ, Bool, false, is_none, nat_le, List, length, drop, Option, Some, None, slice_get}
use Rattle.std.specs.Option.{option_map, MatchOption}
use Rattle.fp_outside.specs.Causes.{next_count}
use Rattle.fp_outside.specs.Held.{file_in}

-- the names with their bytes, the name of the current file and what is left of it, how many calls of `open` succeeded, how many calls there
-- were, which of them is to fail, and how many failed
pub record Kept : Type 0 where
  pub files : List (List ℕ × List ℕ)
  pub name : Option (List ℕ)
  pub left : Option (List ℕ)
  pub opened : ℕ
  pub calls : ℕ
  pub fails : Option ℕ
  pub failures : ℕ

-- the next call is to fail
abbrev pub is_due : ℕ → Option ℕ → Bool
is_due calls None = false
is_due calls (Some call) = call == next_count calls

-- the next call of `open`, with that name, is to fail
abbrev pub open_fails : Kept → List ℕ → Bool
open_fails kept name = is_due kept.calls kept.fails || kept.opened == 2 ^ 64 - 1 || is_none (file_in kept.files name)

-- each call is counted, and which of them is to fail stays
pub record CountsCall (old new : Kept) : Type 0 where
  pub calls : new.calls ≡ next_count old.calls
  pub fails : new.fails ≡ old.fails

-- what is left of the file at an index from an offset on
abbrev pub left_at : List (List ℕ × List ℕ) → ℕ → ℕ → Option (List ℕ)
left_at files index at = option_map (λ file. drop at file.1) (slice_get files index)

-- that place is in a file
abbrev pub IsPlace : List (List ℕ × List ℕ) → ℕ → ℕ → Type 0
IsPlace files index at = MatchOption (slice_get files index) ⊥ (λ file. at ≤ length file.1)

-- the bytes that were taken, for how many there is room in all, how many calls there were, which of them is to fail, and
-- how many failed
pub record Taken : Type 0 where
  pub bytes : List ℕ
  pub room : ℕ
  pub calls : ℕ
  pub fails : Option ℕ
  pub failures : ℕ

-- the next call of `write` is to fail
abbrev pub write_fails : Taken → Bool
write_fails taken = is_due taken.calls taken.fails || nat_le taken.room (length taken.bytes)

-- each call is counted, and the room and which of them is to fail stay
pub record CountsWrite (old new : Taken) : Type 0 where
  pub calls : new.calls ≡ next_count old.calls
  pub fails : new.fails ≡ old.fails
  pub room : new.room ≡ old.room
