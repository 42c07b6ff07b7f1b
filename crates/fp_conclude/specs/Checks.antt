-- Whether what is passed to a rule is well typed over the signature.
use Rattle.std.specs.Prelude.{ℕ, Bool, ◌&&◌, List, [], ◌∷◌, Option, Some, None}
use Rattle.fp_term.specs.Types.{Typ, type_eq}
use Rattle.fp_term.specs.Terms.{Tm}
use Rattle.fp_term.specs.Typing.{type_under, ill_typed}
use Rattle.fp_term.specs.Signatures.{IsType, IsWellTyped, first_of, unknown_in_type, unknown_in}
use Rattle.fp_term.specs.declared.signature.Signature.{Signature}
use Rattle.fp_conclude.specs.Outcomes.{Outcome, gives, refused, ill_typed_at, unknown_name, unless, followed_by}

abbrev pub type_given : Option Typ → Outcome Typ
type_given None = refused (ill_typed_at [])
type_given (Some s) = gives s

-- the type of a term that is well typed
abbrev pub typed : Tm → Outcome Typ
typed t = unless ill_typed_at (ill_typed [] t) (type_given (type_under [] t))

-- the type of a term that is well typed over the signature
unfoldable pub typed_over : Signature → Tm → Outcome Typ
typed_over signature t = unless unknown_name (unknown_in signature t) (typed t)

-- the first unknown name of the variables' types and of the terms, pair by pair
abbrev pub unknown_in_pairs : Signature → List (List ℕ × Typ × Tm) → Option (List ℕ)
unknown_in_pairs signature [] = None
unknown_in_pairs signature (pair ∷ rest) = first_of (unknown_in_type signature pair.1) (first_of (unknown_in signature pair.2) (unknown_in_pairs signature rest))

-- has the term the type?
abbrev pub fits : Typ → Tm → Outcome Bool
fits s t = followed_by (typed t) (λ u. gives (type_eq u s))

-- has each term the type of its variable, where all those before have it as was said?
unfoldable pub fitting : Bool → List (List ℕ × Typ × Tm) → Outcome Bool
fitting before [] = gives before
fitting before (pair ∷ rest) = followed_by (fits pair.1 pair.2) (λ fit. fitting (before && fit) rest)

abbrev pub unknown_in_type_pairs : Signature → List (List ℕ × Typ) → Option (List ℕ)
unknown_in_type_pairs signature [] = None
unknown_in_type_pairs signature (pair ∷ rest) = first_of (unknown_in_type signature pair.1) (unknown_in_type_pairs signature rest)

-- each term is over the signature and has the type of its variable
abbrev pub AreTerms : Signature → List (List ℕ × Typ × Tm) → Type 0
AreTerms signature [] = Unit {0}
AreTerms signature (pair ∷ rest) = IsWellTyped signature pair.2 pair.1 × AreTerms signature rest

abbrev pub AreTypesOf : Signature → List (List ℕ × Typ) → Type 0
AreTypesOf signature [] = Unit {0}
AreTypesOf signature (pair ∷ rest) = IsType signature pair.1 × AreTypesOf signature rest
