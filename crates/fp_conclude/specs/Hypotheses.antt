-- Lists of hypotheses without repeats, and the variables that are free in them.
use Rattle.std.specs.Prelude.{◌≡◌, ℕ, Bool, false, not, ◌&&◌, ◌||◌, if◌then◌else◌, List, [], ◌∷◌, ◌++◌, map, filter}
use Rattle.std.specs.Str.{bytes_eq}
use Rattle.fp_term.specs.Types.{Typ, type_eq}
use Rattle.fp_term.specs.Terms.{Tm, bound, free, constant, app, abs, term_eq, replaced, retyped_term}

-- is it one of the list?
abbrev pub member : Tm → List Tm → Bool
member t [] = false
member t (u ∷ us) = term_eq t u || member t us

-- none stands twice
abbrev pub IsSet : List Tm → Type 0
IsSet [] = Unit {0}
IsSet (t ∷ ts) = (member t ts ≡ false) × IsSet ts

-- the first list, and then what is new in the second
abbrev pub union : List Tm → List Tm → List Tm
union hyps [] = hyps
union hyps (k ∷ more) = union (if member k hyps then hyps else hyps ++ k ∷ []) more

-- the list without a term
abbrev pub without : Tm → List Tm → List Tm
without t hyps = filter (λ h. not (term_eq t h)) hyps

-- the instances of a list, each once
abbrev pub all_replaced : List (List ℕ × Typ × Tm) → List Tm → List Tm
all_replaced pairs hyps = union [] (map (replaced pairs) hyps)

abbrev pub all_retyped_terms : List (List ℕ × Typ) → List Tm → List Tm
all_retyped_terms pairs hyps = union [] (map (retyped_term pairs) hyps)

-- is the variable free in the term?
abbrev pub occurs : List ℕ → Typ → Tm → Bool
occurs name ty (bound n) = false
occurs name ty (free a s) = bytes_eq a name && type_eq s ty
occurs name ty (constant a s) = false
occurs name ty (app f x) = occurs name ty f || occurs name ty x
occurs name ty (abs s x) = occurs name ty x

abbrev pub occurs_in_any : List ℕ → Typ → List Tm → Bool
occurs_in_any name ty [] = false
occurs_in_any name ty (t ∷ ts) = occurs name ty t || occurs_in_any name ty ts
