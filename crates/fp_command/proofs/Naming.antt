-- Theorems found under the names that they were given.
use Rattle.std.proofs.Common.{◌≡◌, ℕ, Bool, true, false, ◌&&◌, ◌==◌, if◌then◌else◌, List, [], ◌∷◌, ◌++◌, Option, Some, None, refl, sym}
use Rattle.std.proofs.lemmas.Option.{none-some}
use Rattle.std.specs.Str.{bytes_eq}
use Rattle.std.proofs.lemmas.Slice.Eq.{bytes_eq-Decides}
use Rattle.fp_kernel.specs.Theorems.{Theorem}
use Rattle.fp_theory.specs.State.{found_theorem}
use Rattle.fp_theory.specs.Defining.{abs_rep_name, rep_abs_name}

abbrev pub Entries : Type 0
Entries = List (List ℕ × Theorem)

found_step : (b : Bool) (x th : Theorem) (o p : Option Theorem) → (if b then Some x else o) ≡ None → (o ≡ None → p ≡ Some th) → (if b then Some x else p) ≡ Some th
found_step true x th o p none step = absurd (none-some x (sym none))
found_step false x th o p none step = step none

kept_step : (b : Bool) (x th : Theorem) (o p : Option Theorem) → (if b then Some x else o) ≡ Some th → (o ≡ Some th → p ≡ Some th) → (if b then Some x else p) ≡ Some th
kept_step true x th o p found step = found
kept_step false x th o p found step = step found

none_step : (b : Bool) (x : Theorem) (o p : Option Theorem) → (if b then Some x else o) ≡ None → (o ≡ None → p ≡ None) → (if b then Some x else p) ≡ None
none_step true x o p none step = absurd (none-some x (sym none))
none_step false x o p none step = step none

-- a new name has the theorem that was put last
pub found_last : (name : List ℕ) (th : Theorem) (named : Entries) → found_theorem name named ≡ None → found_theorem name (named ++ (name, th) ∷ []) ≡ Some th
found_last name th [] none = rw ((bytes_eq-Decides name name).1 refl) refl
found_last name th (entry ∷ rest) none =
    found_step (bytes_eq entry.0 name) entry.1 th (found_theorem name rest) (found_theorem name (rest ++ (name, th) ∷ [])) none (found_last name th rest)

-- an old name keeps its theorem
pub found_still : (name : List ℕ) (th : Theorem) (named more : Entries) → found_theorem name named ≡ Some th → found_theorem name (named ++ more) ≡ Some th
found_still name th [] more found = absurd (none-some th found)
found_still name th (entry ∷ rest) more found =
    kept_step (bytes_eq entry.0 name) entry.1 th (found_theorem name rest) (found_theorem name (rest ++ more)) found (found_still name th rest more)

-- another name is as free as it was
pub free_still : (name other : List ℕ) (th : Theorem) (named : Entries) → bytes_eq other name ≡ false → found_theorem name named ≡ None → found_theorem name (named ++ (other, th) ∷ []) ≡ None
free_still name other th [] apart none = rw apart refl
free_still name other th (entry ∷ rest) apart none =
    none_step (bytes_eq entry.0 name) entry.1 (found_theorem name rest) (found_theorem name (rest ++ (other, th) ∷ [])) none (free_still name other th rest apart)

both_false : (b c : Bool) → c ≡ false → (b && c) ≡ false
both_false true c e = e
both_false false c e = refl

-- the theorems of a type have two names
pub names_apart : (name : List ℕ) → bytes_eq (abs_rep_name name) (rep_abs_name name) ≡ false
names_apart [] = refl
names_apart (c ∷ name) = both_false (c == c) (bytes_eq (abs_rep_name name) (rep_abs_name name)) (names_apart name)
