-- Looking a file up in memory, and reading from it.
use Rattle.std.proofs.Common.{◌≡◌, ◌∙◌, ◌<◌, ◌+◌, ◌-◌, ◌++◌, ℕ, suc, zero, List, [], ◌∷◌, true, cond, length, take, drop, Option, Some, None, arith, sym, ap, refl, slice_get, get_or}
use Rattle.std.specs.String.{string_bytes}
use Rattle.std.specs.Str.{bytes_eq}
use Rattle.std.specs.Option.{option_map}
use Rattle.std.proofs.lemmas.Slice.Eq.{bytes_eq-Decides}
use Rattle.std.proofs.lemmas.List.{map_push, take-append-drop, drop-drop, drop_more}
use Rattle.fp_outside.specs.declared.memory.MemFile.{MemFile}
use Rattle.fp_outside.specs.declared.memory.Place.{Place}
use Rattle.fp_outside.specs.Held.{file_in, Opens}
use Rattle.fp_outside.specs.Memory.{left_at, IsPlace}
use Rattle.fp_outside.specs.View.{entries_of, left_of, name_of, PlaceIn}
use Rattle.fp_outside.proofs.Outside.{rest_all}

-- a place is in one of the files
IsPlace-within : (es : List MemFile) (i at : ℕ) → IsPlace (entries_of es) i at → i < length es
IsPlace-within [] i at p = absurd p
IsPlace-within (x ∷ xs) zero at p = omega arith
IsPlace-within (x ∷ xs) (suc i) at p = let l = IsPlace-within xs i at p in omega arith

-- what contracts see of the file at an index
slice_get-entries_of : (es : List MemFile) (i : ℕ) (file : MemFile) → i < length es → file ≡ get_or es i file → slice_get (entries_of es) i ≡ Some (string_bytes file.name, file.bytes.items)
slice_get-entries_of [] i file l e = absurd (omega arith)
slice_get-entries_of (x ∷ xs) zero file l e = ap (λ f. Some (string_bytes f.name, f.bytes.items)) (sym e)
slice_get-entries_of (x ∷ xs) (suc i) file l e = slice_get-entries_of xs i file (omega arith) e

-- the file of that name, where none before it has the name
file_in-at : (name : List ℕ) (es : List MemFile) (i : ℕ) (file : MemFile) → i < length es → file ≡ get_or es i file → bytes_eq (string_bytes file.name) name ≡ true → file_in (entries_of (drop i es)) name ≡ file_in (entries_of es) name → file_in (entries_of es) name ≡ Some file.bytes.items
file_in-at name es i file l e same before =
    sym before ∙ ap (λ xs. file_in (entries_of xs) name) (drop_more es i file l) ∙ ap (λ f. file_in ((string_bytes f.name, f.bytes.items) ∷ entries_of (drop (i + 1) es)) name) (sym e) ∙ ap (λ b. cond b (Some file.bytes.items) (file_in (entries_of (drop (i + 1) es)) name)) same

-- opening it at its start
pub Opens-at : (name : List ℕ) (es : List MemFile) (i : ℕ) (file : MemFile) → i < length es → file ≡ get_or es i file → bytes_eq (string_bytes file.name) name ≡ true → file_in (entries_of (drop i es)) name ≡ file_in (entries_of es) name → Opens (Some (entries_of es)) name (left_at (entries_of es) i 0)
Opens-at name es i file l e same before = rw (slice_get-entries_of es i file l e) (file_in-at name es i file l e same before)

-- its name
pub name_of-at : (name : List ℕ) (es : List MemFile) (i : ℕ) (file : MemFile) → i < length es → file ≡ get_or es i file → bytes_eq (string_bytes file.name) name ≡ true → option_map (λ f. f.0) (slice_get (entries_of es) i) ≡ Some name
name_of-at name es i file l e same = rw (slice_get-entries_of es i file l e) (ap Some ((bytes_eq-Decides (string_bytes file.name) name).0 same))

pub IsPlace-at : (es : List MemFile) (i : ℕ) (file : MemFile) → i < length es → file ≡ get_or es i file → IsPlace (entries_of es) i 0
IsPlace-at es i file l e = rw (slice_get-entries_of es i file l e) (omega arith)

-- one more file changes nothing for a place
kept_at : (xs : List (List ℕ × List ℕ)) (x : List ℕ × List ℕ) (i at : ℕ) → IsPlace xs i at → slice_get (xs ++ x ∷ []) i ≡ slice_get xs i
kept_at [] x i at p = absurd p
kept_at (y ∷ ys) x zero at p = refl
kept_at (y ∷ ys) x (suc i) at p = kept_at ys x i at p

pub PlaceIn-push : (es : List MemFile) (e : MemFile) (place : Option Place) → PlaceIn es place → PlaceIn (es ++ e ∷ []) place
PlaceIn-push es e None p = tt
PlaceIn-push es e (Some place) p = let q = kept_at (entries_of es) (string_bytes e.name, e.bytes.items) place.file place.at p in rw map_push (rw q p)

pub name_of-push : (es : List MemFile) (e : MemFile) (place : Option Place) (more : List MemFile) → PlaceIn es place → more ≡ es ++ e ∷ [] → name_of more place ≡ name_of es place
name_of-push es e None more p same = refl
name_of-push es e (Some place) more p same = let q = kept_at (entries_of es) (string_bytes e.name, e.bytes.items) place.file place.at p in rw (same, map_push) (rw q refl)

pub left_of-push : (es : List MemFile) (e : MemFile) (place : Option Place) (more : List MemFile) → PlaceIn es place → more ≡ es ++ e ∷ [] → left_of more place ≡ left_of es place
left_of-push es e None more p same = refl
left_of-push es e (Some place) more p same = let q = kept_at (entries_of es) (string_bytes e.name, e.bytes.items) place.file place.at p in rw (same, map_push) (rw q refl)

-- the file at a place
pub file_at : (es : List MemFile) (i at : ℕ) (file : MemFile) → IsPlace (entries_of es) i at → file ≡ get_or es i file → slice_get (entries_of es) i ≡ Some (string_bytes file.name, file.bytes.items)
file_at es i at file p e = slice_get-entries_of es i file (IsPlace-within es i at p) e

-- reading n bytes at a place
pub reads_at : (bytes buf : List ℕ) (at n : ℕ) → take n buf ≡ take n (take (length bytes - at) (drop at bytes)) → drop at bytes ≡ take n buf ++ drop (at + n) bytes
reads_at bytes buf at n t = rw (t, rest_all at bytes, ← drop-drop n at bytes) (sym (take-append-drop n (drop at bytes)))
