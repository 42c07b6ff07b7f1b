-- Measures, and what a source of them has after it was told some.
use Rattle.std.specs.Prelude.{◌≡◌, ℕ, Bool, false, ◌&&◌, ◌||◌, if◌then◌else◌, List, [], ◌∷◌, ◌++◌, codes, Option, Some, None}
use Rattle.fp_term.specs.Types.{Typ, applied, none, type_eq, matched}
use Rattle.fp_term.specs.Terms.{Tm, is_open, term_eq, retyped_term}
use Rattle.fp_term.specs.Typing.{type_under, function_type}
use Rattle.fp_measure.specs.declared.source.DeclKind.{DeclKind}
use Rattle.fp_measure.specs.declared.source.DeclKind.TheVariants.{Size, Measure}

abbrev pub natural : Typ
natural = applied (codes "nat") none

-- a closed term from the type into the natural numbers
pub record IsMeasure (ty : Typ) (term : Tm) : Type 0 where
  pub closed : is_open term ≡ false
  pub typed : type_under [] term ≡ Some (function_type ty natural)

abbrev pub AreMeasures : Typ → List Tm → Type 0
AreMeasures ty [] = Unit {0}
AreMeasures ty (term ∷ terms) = IsMeasure ty term × AreMeasures ty terms

-- each term is a measure of the type beside it
abbrev pub AreEntries : List (Typ × Tm) → Type 0
AreEntries [] = Unit {0}
AreEntries (entry ∷ entries) = IsMeasure entry.0 entry.1 × AreEntries entries

-- which declarations a source takes, and whether a later one of a type replaces the earlier one
pub record Habits : Type 0 where
  pub sizes : Bool
  pub measures : Bool
  pub replaces : Bool

abbrev pub takes : Habits → DeclKind → Bool
takes habits Size = habits.sizes
takes habits Measure = habits.measures

-- with this measure in the place of the type's entry, else last
abbrev pub put : Typ → Tm → List (Typ × Tm) → List (Typ × Tm)
put ty term [] = (ty, term) ∷ []
put ty term (entry ∷ more) = if type_eq entry.0 ty then (ty, term) ∷ more else entry ∷ put ty term more

abbrev pub is_entry : Typ → Tm → List (Typ × Tm) → Bool
is_entry ty term [] = false
is_entry ty term (entry ∷ more) = (type_eq entry.0 ty && term_eq entry.1 term) || is_entry ty term more

-- with this measure last, unless it is there
abbrev pub added : Typ → Tm → List (Typ × Tm) → List (Typ × Tm)
added ty term entries = if is_entry ty term entries then entries else entries ++ (ty, term) ∷ []

-- the entries after a declaration was told
abbrev pub told : Habits → DeclKind → Typ → Tm → List (Typ × Tm) → List (Typ × Tm)
told habits kind ty term entries = if takes habits kind then (if habits.replaces then put ty term entries else added ty term entries) else entries

-- the instance of the term, where there is one, before the others
abbrev pub with_instance : Option (List (List ℕ × Typ)) → Tm → List Tm → List Tm
with_instance None term others = others
with_instance (Some pairs) term others = retyped_term pairs term ∷ others

-- the entries' measures of the type: of each entry whose type has it as an instance
abbrev pub measures_of : List (Typ × Tm) → Typ → List Tm
measures_of [] ty = []
measures_of (entry ∷ more) ty = with_instance (matched [] entry.0 ty) entry.1 (measures_of more ty)
