-- When a term is an instance of a pattern.
use Rattle.std.specs.Prelude.{◌≡◌, ℕ, Bool, true, false, ◌&&◌, ◌||◌, List, [], ◌∷◌, Some}
use Rattle.std.specs.Str.{bytes_eq}
use Rattle.fp_term.specs.Types.{Typ, type_eq, found_type}
use Rattle.fp_term.specs.Terms.{Tm, bound, free, constant, app, abs, found, replaced, retyped_term}
use Rattle.fp_term.specs.Typing.{type_under}
use Rattle.fp_term.specs.Variables.{is_among, type_names_in}
pub use Rattle.fp_term.specs.Variables.{occurs as has_variable}

-- each pair's term has the pair's type
abbrev pub AreTyped : List (List ℕ × Typ × Tm) → Type 0
AreTyped [] = Unit {0}
AreTyped (pair ∷ rest) = (type_under [] pair.2 ≡ Some pair.1) × AreTyped rest

-- the types and then the terms, each in place of its variable, make the pattern equal to the term
pub record IsInstanceBy (types : List (List ℕ × Typ)) (terms : List (List ℕ × Typ × Tm)) (pattern t : Tm) : Type 0 where
  pub fit : AreTyped terms
  pub equal : replaced terms (retyped_term types pattern) ≡ t

-- the term is an instance of the pattern
pub record IsTermInstance (pattern t : Tm) : Type 0 where
  pub types : List (List ℕ × Typ)
  pub terms : List (List ℕ × Typ × Tm)
  pub by : IsInstanceBy types terms pattern t

-- each pair is of a type variable of the term
abbrev pub AreTypeVariables : Tm → List (List ℕ × Typ) → Type 0
AreTypeVariables t [] = Unit {0}
AreTypeVariables t (pair ∷ rest) = (is_among (type_names_in t) pair.0 ≡ true) × AreTypeVariables t rest

-- each pair is of a variable of the term
abbrev pub AreVariables : Tm → List (List ℕ × Typ × Tm) → Type 0
AreVariables t [] = Unit {0}
AreVariables t (pair ∷ rest) = (has_variable pair.0 pair.1 t ≡ true) × AreVariables t rest

-- the pairs are of the pattern's type variables, and of the variables that it has once its types are replaced
pub record AreOwn (types : List (List ℕ × Typ)) (terms : List (List ℕ × Typ × Tm)) (pattern : Tm) : Type 0 where
  pub types_own : AreTypeVariables pattern types
  pub terms_own : AreVariables (retyped_term types pattern) terms

-- each pair is the first for its type variable among all
abbrev pub FirstTypes : List (List ℕ × Typ) → List (List ℕ × Typ) → Type 0
FirstTypes all [] = Unit {0}
FirstTypes all (pair ∷ rest) = (found_type pair.0 all ≡ Some pair.1) × FirstTypes all rest

-- each pair is the first for its variable among all
abbrev pub FirstTerms : List (List ℕ × Typ × Tm) → List (List ℕ × Typ × Tm) → Type 0
FirstTerms all [] = Unit {0}
FirstTerms all (pair ∷ rest) = (found pair.0 pair.1 all ≡ Some pair.2) × FirstTerms all rest

-- no pair stands behind another of its variable
pub record AreFirst (types : List (List ℕ × Typ)) (terms : List (List ℕ × Typ × Tm)) : Type 0 where
  pub types_first : FirstTypes types types
  pub terms_first : FirstTerms terms terms
