-- Files in memory as names with their bytes.
use Rattle.std.specs.Prelude.{◌+◌, ℕ, List, map, Option, Some, None, slice_get}
use Rattle.std.specs.Option.{option_map}
use Rattle.std.specs.String.{string_bytes}
use Rattle.fp_outside.specs.declared.memory.MemFile.{MemFile}
use Rattle.fp_outside.specs.declared.memory.Place.{Place}
use Rattle.fp_outside.specs.Memory.{left_at, IsPlace}

abbrev pub entries_of : List MemFile → List (List ℕ × List ℕ)
entries_of files = map (λ file. (string_bytes file.name, file.bytes.items)) files

abbrev pub left_of : List MemFile → Option Place → Option (List ℕ)
left_of files None = None
left_of files (Some place) = left_at (entries_of files) place.file place.at

abbrev pub name_of : List MemFile → Option Place → Option (List ℕ)
name_of files None = None
name_of files (Some place) = option_map (λ file. file.0) (slice_get (entries_of files) place.file)

abbrev pub PlaceIn : List MemFile → Option Place → Type 0
PlaceIn files None = Unit {0}
PlaceIn files (Some place) = IsPlace (entries_of files) place.file place.at

abbrev pub moved : Place → ℕ → Place
moved place by = record { file = place.file; at = place.at + by }
