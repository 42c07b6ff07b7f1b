-- The words of the program.
use Rattle.std.specs.Prelude.{ℕ, List, [], ◌∷◌, ◌++◌, length, Bool, true, false, not, ◌&&◌, cond, nat_le, ◌==◌, Option, Some, None, codes}
use Rattle.std.specs.List.{list_all}
use Rattle.std.specs.Str.{bytes_eq}

-- from 1 to 255 bytes, the first of them no dash
abbrev pub is_file_name : List ℕ → Bool
is_file_name [] = false
is_file_name (c ∷ cs) = not (c == 45) && nat_le (length (c ∷ cs)) 255

-- from 1 to 64 names of files
abbrev pub are_file_names : List (List ℕ) → Bool
are_file_names [] = false
are_file_names (name ∷ names) = nat_le (length (name ∷ names)) 64 && list_all is_file_name (name ∷ names)

abbrev pub asked_of : Bool → List (List ℕ) → Option (Bool × List (List ℕ))
asked_of full names = cond (are_file_names names) (Some (full, names)) None

-- `NAME ..` or `--full NAME ..`
abbrev pub asked_of_run : List (List ℕ) → Option (Bool × List (List ℕ))
asked_of_run [] = None
asked_of_run (a ∷ rest) = cond (bytes_eq a (codes "--full")) (asked_of true rest) (asked_of false (a ∷ rest))

-- what well-formed words ask for: whether statements are printed in full, and the files. They are `run FILE ..` or `run --full FILE ..`
abbrev pub asked : List (List ℕ) → Option (Bool × List (List ℕ))
asked [] = None
asked (a ∷ rest) = cond (bytes_eq a (codes "run")) (asked_of_run rest) None

abbrev pub usage_line : List ℕ
usage_line = codes "usage: funpack run [--full] [--workers N] FILE..." ++ 10 ∷ []
