-- Equations over numbered types, and what solves them.
use Rattle.std.specs.Prelude.{◌≡◌, ◌<◌, ℕ, true, List, [], ◌∷◌, length, Some}
use Rattle.fp_term.specs.Types.{Typ, Typs, variable, applied, none, more}
use Rattle.fp_term.specs.Variables.{is_among}
use Rattle.fp_term.specs.Signatures.{arity_of}
use Rattle.fp_term.specs.declared.signature.Signature.{Signature}
use Rattle.fp_unify.specs.declared.fact.Fact.{Fact}
use Rattle.fp_unify.specs.declared.fact.Fact.TheVariants.{IsVar, IsCon, Same, Never}

-- the types of the numbers
abbrev pub types_at : (ℕ → Typ) → List ℕ → Typs
types_at v [] = none
types_at v (j ∷ js) = more (v j) (types_at v js)

-- the types meet the equation
abbrev pub Holds : (ℕ → Typ) → Fact → Type 0
Holds v (IsVar at name) = v at ≡ variable name
Holds v (IsCon at name args) = v at ≡ applied name (types_at v args)
Holds v (Same left right) = v left ≡ v right
Holds v Never = ⊥

-- the types meet each equation whose number is below the limit
abbrev pub Solves : ℕ → (ℕ → Typ) → List (ℕ × Fact) → Type 0
Solves limit v [] = Unit {0}
Solves limit v (p ∷ facts) = (p.0 < limit → Holds v p.1) × Solves limit v facts

-- the numbers are below n
abbrev pub AllBelow : ℕ → List ℕ → Type 0
AllBelow n [] = Unit {0}
AllBelow n (j ∷ js) = (j < n) × AllBelow n js

-- the equation speaks of the first n types
abbrev pub IsAbout : ℕ → Fact → Type 0
IsAbout n (IsVar at name) = at < n
IsAbout n (IsCon at name args) = (at < n) × AllBelow n args
IsAbout n (Same left right) = (left < n) × (right < n)
IsAbout n Never = Unit {0}

abbrev pub AreAbout : ℕ → List (ℕ × Fact) → Type 0
AreAbout n [] = Unit {0}
AreAbout n (p ∷ facts) = IsAbout n p.1 × AreAbout n facts

-- no types meet the equations below the limit
pub record Unsolvable (limit : ℕ) (facts : List (ℕ × Fact)) : Type 0 where
  pub never : (v : ℕ → Typ) → Solves limit v facts → ⊥

-- the equation has written names, and type constructors of the signature
abbrev pub IsKnown : Signature → List (List ℕ) → Fact → Type 0
IsKnown s written (IsVar at name) = is_among written name ≡ true
IsKnown s written (IsCon at name args) = arity_of name s.types ≡ Some (length args)
IsKnown s written (Same left right) = Unit {0}
IsKnown s written Never = Unit {0}

abbrev pub AreKnown : Signature → List (List ℕ) → List (ℕ × Fact) → Type 0
AreKnown s written [] = Unit {0}
AreKnown s written (p ∷ facts) = IsKnown s written p.1 × AreKnown s written facts
