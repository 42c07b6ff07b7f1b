-- What files hold: a list of names with their bytes, the first of a name counting.
use Rattle.std.specs.Prelude.{◌≡◌, ◌<◌, ℕ, length, List, [], ◌∷◌, Option, Some, None, cond}
use Rattle.std.specs.Str.{bytes_eq}

abbrev pub file_in : List (List ℕ × List ℕ) → List ℕ → Option (List ℕ)
file_in [] name = None
file_in (file ∷ files) name = cond (bytes_eq file.0 name) (Some file.1) (file_in files name)

-- Where it is told what the files hold, the opened file is there, and all of it is left.
abbrev pub Opens : Option (List (List ℕ × List ℕ)) → List ℕ → Option (List ℕ) → Type 0
Opens None name left = Unit {0}
Opens (Some files) name None = ⊥
Opens (Some files) name (Some left) = file_in files name ≡ Some left

-- Where it is told, the current file has this name.
abbrev pub IsNamed : Option (List ℕ) → List ℕ → Type 0
IsNamed None name = Unit {0}
IsNamed (Some told) name = told ≡ name

-- Where it is told, the file of this name has these bytes.
abbrev pub Has : Option (List (List ℕ × List ℕ)) → List ℕ → List ℕ → Type 0
Has None name bytes = Unit {0}
Has (Some files) name bytes = file_in files name ≡ Some bytes

-- Where it is told, there is a file of this name, and it has more bytes than that.
abbrev pub IsLonger : Option (List (List ℕ × List ℕ)) → List ℕ → ℕ → Type 0
IsLonger None name room = Unit {0}
IsLonger (Some files) name room = (bytes : List ℕ) × (file_in files name ≡ Some bytes) × (room < length bytes)

-- Where it is told, more bytes are left than that.
abbrev pub HasMore : Option (List ℕ) → ℕ → Type 0
HasMore None room = Unit {0}
HasMore (Some left) room = room < length left
