-- Lists of definitions of which each is made over the ones before it.
use Rattle.std.specs.Prelude.{◌≡◌, ℕ, true, false, List, [], ◌∷◌, None}
use Rattle.std.specs.Str.{bytes_eq}
use Rattle.fp_term.specs.Types.{Typ, found_type}
use Rattle.fp_term.specs.Terms.{Tm, app}
use Rattle.fp_term.specs.Signatures.{arity_of, IsWellTyped}
use Rattle.fp_term.specs.Variables.{free_names, type_names, type_names_in, is_among}
use Rattle.fp_kernel.specs.Definitions.{Def, new_constant, new_type}
use Rattle.fp_kernel.specs.Start.{signature_of, distinct_after}
use Rattle.fp_kernel.specs.Derivability.{Derives}

-- each of the names is one of the known
abbrev pub AllAmong : List (List ℕ) → List (List ℕ) → Type 0
AllAmong known [] = Unit {0}
AllAmong known (name ∷ names) = (is_among known name ≡ true) × AllAmong known names

-- a new name for a closed and well-typed term, of which each type variable is in its type
pub record IsNewConstant (older : List Def) (name : List ℕ) (type : Typ) (body : Tm) : Type 0 where
  pub fresh : found_type name (signature_of older).consts ≡ None
  pub typed : IsWellTyped (signature_of older) body type
  pub closed : free_names body ≡ []
  pub shown : AllAmong (type_names type) (type_names_in body)

-- a new type for a closed predicate that is derived to hold of a term
pub record IsNewType (older : List Def) (name : List ℕ) (params : List (List ℕ)) (predicate inhabitant : Tm) (abstract represent : List ℕ) : Type 0 where
  pub fresh : arity_of name (signature_of older).types ≡ None
  pub fresh_abstract : found_type abstract (signature_of older).consts ≡ None
  pub fresh_represent : found_type represent (signature_of older).consts ≡ None
  pub two : bytes_eq abstract represent ≡ false
  pub closed : free_names predicate ≡ []
  pub in_order : params ≡ distinct_after [] (type_names_in predicate)
  pub inhabited : Derives older [] [] (app predicate inhabitant)

abbrev pub Extends : List Def → Def → Type 0
Extends older (new_constant name type body) = IsNewConstant older name type body
Extends older (new_type name params predicate inhabitant abstract represent) = IsNewType older name params predicate inhabitant abstract represent

abbrev pub IsConservative : List Def → Type 0
IsConservative [] = Unit {0}
IsConservative (d ∷ older) = Extends older d × IsConservative older
