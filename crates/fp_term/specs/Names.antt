-- The form of a name, and the names that the logic itself has.
use Rattle.std.specs.Prelude.{ℕ, ◌+◌, ◌*◌, ◌%◌, Bool, not, ◌&&◌, ◌||◌, ◌==◌, nat_lt, List, [], ◌∷◌, length, slice_index, codes, ◌++◌}
use Rattle.std.specs.List.{list_all}
use Rattle.std.specs.Fmt.{decimal}
use Rattle.std.specs.Char.{is_ascii_alphabetic, is_ascii_alphanumeric}

-- a letter or `_`
abbrev pub is_start_byte : ℕ → Bool
is_start_byte byte = is_ascii_alphabetic byte || byte == 95

-- a letter, a digit, `_` or `'`
abbrev pub is_part_byte : ℕ → Bool
is_part_byte byte = is_ascii_alphanumeric byte || byte == 95 || byte == 39

-- from 1 to 160 bytes: a letter or `_`, then letters, digits, `_` and `'`
unfoldable pub is_name : List ℕ → Bool
is_name bytes =
    not (length bytes == 0) && nat_lt (length bytes) 161 && is_start_byte (slice_index bytes 0) && list_all is_part_byte bytes

-- the constructor of functions, the type of truth values, and equality
abbrev pub function : List ℕ
function = codes "fun"

abbrev pub truth : List ℕ
truth = codes "bool"

abbrev pub equality : List ℕ
equality = codes "eq"

-- a number below 2 ^ 32 in which unequal names mostly differ
abbrev pub hashed_from : ℕ → List ℕ → ℕ
hashed_from hash [] = hash
hashed_from hash (byte ∷ bytes) = hashed_from ((hash * 131 + byte) % 4294967296) bytes

abbrev pub name_hash : List ℕ → ℕ
name_hash bytes = hashed_from 1 bytes

-- the same for what has two parts, by those of the parts
abbrev pub mixed : ℕ → ℕ → ℕ → ℕ
mixed kind a b = (a * 2654435761 + b * 40503 + kind) % 4294967296

-- the stem with the number's digits after it
abbrev pub numbered : List ℕ → ℕ → List ℕ
numbered stem n = stem ++ decimal n
